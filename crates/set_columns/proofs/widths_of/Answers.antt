use Rattle.set_columns.proofs.Tables as laws
use mathlib.Core.Path.{◌∙◌}
use Rattle.set_columns.specs.Inner.{laid_on}
use borrow.Author.Rules.{rules}
use Rattle.set_columns.proofs.widths_of.Goals as goal

pub returns-in-Plain : goal.returns-in-Plain
returns-in-Plain c = rw c.in-Plain.is (c.widths_over.ensures ∙ laws.widths_laid _ _ _ _)

pub returns-in-Quoted : goal.returns-in-Quoted
returns-in-Quoted c = rw c.in-Quoted.is (c.widths_over-in-Quoted.ensures ∙ laws.widths_laid _ _ _ _)

pub returns-in-Empty : goal.returns-in-Empty
unfolding laid_on
returns-in-Empty c = rw (c.in-Empty.is, c.with_width.ensures)
