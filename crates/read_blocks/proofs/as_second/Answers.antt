use borrow.Author.Rules.{rules}
use borrow.Author.Tests.{ne_eqb}
use Rattle.read_blocks.specs.Blocks.{as_second}
use Rattle.read_blocks.proofs.as_second.Goals as goal

pub returns-then-block-eq0 : goal.returns-then-block-eq0
unfolding as_second
returns-then-block-eq0 c = rw c.if-block-eq0.true c.exchange.ensures

pub returns : goal.returns
unfolding as_second
returns c = rw (ne_eqb _ 0 c.if-block-eq0.false)
