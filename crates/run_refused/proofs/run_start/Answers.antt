use borrow.Author.Rules.{rules}
use Rattle.run_refused.proofs.run_start.Goals as goal

pub returns : goal.returns
returns c = rw c.hold_start.ensures.value
