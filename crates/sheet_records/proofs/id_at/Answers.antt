use native.Mathlib.Omega.{arith}
use Rattle.sheet_records.proofs.Places as laws
use borrow.Author.Rules.{rules}
use Rattle.sheet_records.proofs.id_at.Goals as goal

-- `id_at` looks for the LF behind the id. Assumes nothing.

pub returns-then-index-to : goal.returns-then-index-to
returns-then-index-to c = laws.id_no _ _ _ _ _ _ c.id_end-to.ensures (omega (arith, c.if-index-to.true))

pub returns : goal.returns
returns c = laws.id_yes _ _ _ _ _ _ c.id_end-to.ensures (omega (arith, c.if-index-to.false))
