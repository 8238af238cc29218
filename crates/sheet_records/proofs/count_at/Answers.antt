use mathlib.Core.Path.{sym, ◌∙◌}
use native.Mathlib.Omega.{arith}
use Rattle.sheet_records.proofs.Places as laws
use Rattle.sheet_records.specs.Computed.{count_at}
use borrow.Author.Rules.{rules}
use Rattle.sheet_records.proofs.count_at.Goals as goal

-- `count_at` reads the second number, a tab and what follows. Assumes nothing.

pub returns-then-index-p : goal.returns-then-index-p
unfolding count_at
returns-then-index-p c = laws.field_on _ _ _ _ _ (sym c.field_at-f.ensures ∙ c.in-Some.is) (laws.tab_past _ _ _ (omega (arith, c.if-index-p.true)))

pub returns-then-index-p-ne9 : goal.returns-then-index-p-ne9
unfolding count_at
returns-then-index-p-ne9 c = laws.field_on _ _ _ _ _ (sym c.field_at-f.ensures ∙ c.in-Some.is) (laws.tab_other _ _ _ (omega arith) c.if-index-p-ne9.true)

pub returns-in-None : goal.returns-in-None
unfolding count_at
returns-in-None c = laws.field_bad _ _ (sym c.field_at-f.ensures ∙ c.in-None.is)

pub returns-else-index-p-ne9 : goal.returns-else-index-p-ne9
unfolding count_at
returns-else-index-p-ne9 c = laws.field_on _ _ _ _ _ (sym c.field_at-f.ensures ∙ c.in-Some.is) (laws.tab_yes _ _ _ _ (omega arith) (omega (arith, c.if-index-p-ne9.false)) c.offset_at.ensures)
