use mathlib.Core.Path.{sym, ◌∙◌}
use Rattle.sheet_records.proofs.Places as laws
use Rattle.sheet_records.specs.Computed.{offset_at}
use borrow.Author.Rules.{rules}
use Rattle.sheet_records.proofs.offset_at.Goals as goal

-- `offset_at` reads the third number and goes on behind it. Assumes nothing.

pub returns-in-None : goal.returns-in-None
unfolding offset_at
returns-in-None c = laws.field_bad _ _ (sym c.field_at-f.ensures ∙ c.in-None.is)

pub returns-in-Some : goal.returns-in-Some
unfolding offset_at
returns-in-Some c = laws.field_on _ _ _ _ _ (sym c.field_at-f.ensures ∙ c.in-Some.is) c.end_at.ensures
