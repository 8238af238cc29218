use native.Mathlib.Omega.{arith}
use Rattle.sheet_report.proofs.Laying.{put_so}
use Rattle.sheet_listing.proofs.Listings as laws
use borrow.Author.Rules.{rules}
use Rattle.sheet_listing.proofs.put_number.Goals as goal

pub overflow_add-result : goal.overflow_add-result
overflow_add-result c = omega (arith, laws.field_le c.put_field-k.ensures.value (omega arith))

pub returns : goal.returns
returns c = record { put_at = put_so _ _ _ c.put_field-k.ensures.value c.put_field-k.ensures.out_after; upper_bound = omega (arith, laws.field_le c.put_field-k.ensures.value (omega arith)) }
