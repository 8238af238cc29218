use native.Mathlib.Omega.{arith}
use Rattle.sheet_records.proofs.Places as laws
use borrow.Author.Rules.{rules}
use Rattle.sheet_records.proofs.end_at.Goals as goal

-- `end_at` goes by the byte behind the offset: LF, a tab, another or none. Assumes nothing.

pub returns-then-index-at : goal.returns-then-index-at
returns-then-index-at c = laws.end_past _ _ _ _ _ (omega (arith, c.if-index-at.true))

pub returns-then-b-eq10 : goal.returns-then-b-eq10
returns-then-b-eq10 c = laws.end_lf _ _ _ _ _ (omega arith) c.if-b-eq10.true

pub returns-then-b-ne9 : goal.returns-then-b-ne9
returns-then-b-ne9 c = laws.end_bad _ _ _ _ _ (omega arith) c.if-b-eq10.false c.if-b-ne9.true

pub returns : goal.returns
returns c = laws.end_tab _ _ _ _ _ _ (omega arith) c.if-b-eq10.false (omega (arith, c.if-b-ne9.false)) c.id_at.ensures
