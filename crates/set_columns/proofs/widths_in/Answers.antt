use Rattle.set_columns.proofs.Tables as laws
use Rattle.set_columns.specs.Inner.{laid_on}
use Rattle.set_columns.specs.Columns.{found_widths}
use borrow.Author.Rules.{rules}
use Rattle.set_columns.proofs.widths_in.Goals as goal

pub returns-in-None : goal.returns-in-None
unfolding found_widths laid_on
returns-in-None c = rw c.in-None.is

pub returns-in-Some : goal.returns-in-Some
unfolding found_widths
returns-in-Some c = rw c.in-Some.is c.widths_of.ensures
