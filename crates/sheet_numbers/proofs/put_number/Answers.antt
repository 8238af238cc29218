use native.Mathlib.Omega.{arith}
use Rattle.sheet_numbers.proofs.Laying as laws
use borrow.Author.Rules.{rules}
use Rattle.sheet_numbers.proofs.put_number.Goals as goal

pub overflow_add-end : goal.overflow_add-end
overflow_add-end c = omega (arith, laws.field_le c.put_field-k.ensures.value (omega arith))

pub bounds-out-end : goal.bounds-out-end
bounds-out-end c = omega (arith, laws.field_le c.put_field-k.ensures.value (omega arith))

pub overflow_add-result : goal.overflow_add-result
overflow_add-result c = omega (arith, laws.field_le c.put_field-k.ensures.value (omega arith))

pub returns : goal.returns
returns c = record { put_at = laws.number_put _ c.put_field-k.ensures.value c.put_field-k.ensures.out_after; upper_bound = omega (arith, laws.field_le c.put_field-k.ensures.value (omega arith)) }
