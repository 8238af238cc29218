use borrow.Author.Rules.{rules}
use Rattle.read_brace.proofs.refused.Goals as goal

pub returns : goal.returns
returns c = rw c.refusing-filled.ensures.value
