use native.Mathlib.Omega.{arith}
use Rattle.block_close.proofs.Search as laws
use borrow.Author.Rules.{rules}
use Rattle.read_once.proofs.goes_on.Goals as goal

pub returns-then-s-k : goal.returns-then-s-k
returns-then-s-k c = laws.past_end _ _ c.if-s-k.true

pub returns : goal.returns
returns c = laws.byte_on c.args.s.now c.args.k (omega arith)
