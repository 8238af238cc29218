use borrow.Author.Rules.{rules}
use Rattle.run_scanners.proofs.stays_out.Goals as goal

pub returns-in-None : goal.returns-in-None
returns-in-None c = rw c.in-None.is c.lacks_quotes.ensures
