use borrow.Author.Rules.{rules}
use Rattle.set_wellformed.proofs.is_there.Goals as goal

pub returns-in-Key : goal.returns-in-Key
returns-in-Key c = rw c.in-Key.is
