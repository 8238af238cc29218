use borrow.Author.Rules.{rules}
use Rattle.sheet_numbers.proofs.field_of.Goals as goal

pub returns-in-Some : goal.returns-in-Some
returns-in-Some c = rw (← c.read_out.ensures.value, c.in-Some.is)
