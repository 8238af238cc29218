use borrow.Author.Rules.{rules}
use Rattle.read_blocks.proofs.in_second.Goals as goal

pub returns : goal.returns
returns c = rw c.exchange-set.ensures
