use Rattle.sheet_records.proofs.Lines.{told}
use Rattle.sheet_records.specs.Computed.{row_paper}
use mathlib.Core.Path.{sym, ◌∙◌}
use native.Mathlib.Omega.{arith}
use Rattle.sheet_records.proofs.Places as laws
use Rattle.sheet_records.specs.Computed.{record_at}
use borrow.Author.Rules.{rules}
use Rattle.sheet_records.proofs.record_at.Goals as goal

-- `record_at` reads the first number, a tab and what follows. Assumes nothing.

pub returns-then-index-p : goal.returns-then-index-p
unfolding record_at
returns-then-index-p c = let r = told row_paper (laws.field_on _ _ _ _ _ (sym c.field_at-line.ensures ∙ c.in-Some.is) (laws.tab_past _ _ _ (omega (arith, c.if-index-p.true)))) in record { value = r.0; result_value = r.1 }

pub returns-then-index-p-ne9 : goal.returns-then-index-p-ne9
unfolding record_at
returns-then-index-p-ne9 c = let r = told row_paper (laws.field_on _ _ _ _ _ (sym c.field_at-line.ensures ∙ c.in-Some.is) (laws.tab_other _ _ _ (omega arith) c.if-index-p-ne9.true)) in record { value = r.0; result_value = r.1 }

pub returns-in-None : goal.returns-in-None
unfolding record_at
returns-in-None c = let r = told row_paper (laws.field_bad _ _ (sym c.field_at-line.ensures ∙ c.in-None.is)) in record { value = r.0; result_value = r.1 }

pub returns-else-index-p-ne9 : goal.returns-else-index-p-ne9
unfolding record_at
returns-else-index-p-ne9 c = let r = told row_paper (laws.field_on _ _ _ _ _ (sym c.field_at-line.ensures ∙ c.in-Some.is) (laws.tab_yes _ _ _ _ (omega arith) (omega (arith, c.if-index-p-ne9.false)) c.count_at.ensures)) in record { value = r.0; result_value = r.1 }
