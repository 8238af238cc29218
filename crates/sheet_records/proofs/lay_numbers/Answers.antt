use native.Mathlib.Omega.{arith}
use Rattle.sheet_records.proofs.Lines as laws
use borrow.Author.Rules.{rules}
use Rattle.sheet_records.proofs.lay_numbers.Goals as goal

pub overflow_add-b : goal.overflow_add-b
overflow_add-b c = omega (arith, laws.decimal_short c.put_decimal-a.ensures.value (omega arith), laws.field_le c.put_field.ensures.value (omega arith))

pub overflow_add-result : goal.overflow_add-result
overflow_add-result c = omega (arith, laws.decimal_short c.put_decimal-a.ensures.value (omega arith), laws.field_le c.put_field.ensures.value (omega arith), laws.field_le c.put_field-2.ensures.value (omega arith))

pub returns : goal.returns
returns c =
    let p = laws.numbers_laid _ _ _ _ c.put_decimal-a.ensures.value c.put_decimal-a.ensures.out_after c.put_field.ensures.value c.put_field.ensures.out_after c.put_field-2.ensures.value c.put_field-2.ensures.out_after in record { value = (p.0, omega (arith, laws.decimal_short c.put_decimal-a.ensures.value (omega arith), laws.field_le c.put_field.ensures.value (omega arith), laws.field_le c.put_field-2.ensures.value (omega arith))); out_after = p.1 }
