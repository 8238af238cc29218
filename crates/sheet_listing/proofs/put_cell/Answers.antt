use native.Mathlib.Omega.{arith}
use mathlib.Core.List.{[], ◌∷◌}
use Rattle.sheet_report.proofs.Laying.{put_so, put_is}
use Rattle.sheet_listing.proofs.Listings as laws
use borrow.Author.Rules.{rules}
use Rattle.sheet_listing.proofs.put_cell.Goals as goal

pub overflow_add-result-in-Some : goal.overflow_add-result-in-Some
overflow_add-result-in-Some c = omega (arith, laws.valve_le c.put_field-k.ensures.value (omega arith))

pub returns-in-None : goal.returns-in-None
returns-in-None c = record { put_at = rw c.in-None.is (put_is _ _ (9 ∷ 45 ∷ []) c.put_bytes.ensures); upper_bound = omega arith }

pub returns-in-Some : goal.returns-in-Some
returns-in-Some c = record { put_at = rw c.in-Some.is (put_so _ _ _ c.put_field-k.ensures.value c.put_field-k.ensures.out_after); upper_bound = omega (arith, laws.valve_le c.put_field-k.ensures.value (omega arith)) }
