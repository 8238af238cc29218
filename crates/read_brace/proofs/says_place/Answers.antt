use borrow.Author.Rules.{rules}
use Rattle.read_brace.proofs.says_place.Goals as goal

pub returns : goal.returns
returns c = rw (c.outcome_number.ensures, c.number.ensures)
