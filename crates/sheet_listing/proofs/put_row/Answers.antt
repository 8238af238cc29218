use Prim.Native.Nat.{◌+◌}
use lib.ListN.{length-set}
use native.Mathlib.Omega.{arith}
use Rattle.text_digits.specs.Decimal.{decimal}
use Rattle.sheet_report.proofs.Laying.{put_so}
use Rattle.sheet_listing.proofs.Listings as laws
use borrow.Author.Rules.{rules}
use Rattle.sheet_listing.proofs.put_row.Goals as goal

pub overflow_add-at : goal.overflow_add-at
overflow_add-at c = omega (arith, laws.variant_le c.put_decimal-k.ensures.value (omega arith))

pub put_fields-e-requires : goal.put_fields-e-requires
put_fields-e-requires c = omega (arith, laws.variant_le c.put_decimal-k.ensures.value (omega arith))

pub bounds-out-e : goal.bounds-out-e
bounds-out-e c =
    omega (arith, laws.variant_le c.put_decimal-k.ensures.value (omega arith), c.put_fields-e.ensures.upper_bound)

pub overflow_add-result : goal.overflow_add-result
overflow_add-result c = omega (arith, laws.variant_le c.put_decimal-k.ensures.value (omega arith), c.put_fields-e.ensures.upper_bound)

pub shape_of-out : goal.shape_of-out
shape_of-out c = rw length-set (omega arith)

pub returns : goal.returns
returns c = record { put_at = laws.row_put c.args.table c.args.v (put_so c.args.out.now c.args.at (decimal (c.args.v + 1)) c.put_decimal-k.ensures.value c.put_decimal-k.ensures.out_after) c.put_fields-e.ensures.put_at; upper_bound = omega (arith, laws.variant_le c.put_decimal-k.ensures.value (omega arith), c.put_fields-e.ensures.upper_bound) }
