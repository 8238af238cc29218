use mathlib.Core.Path.{sym, ◌∙◌, ap}
use native.Mathlib.Omega.{arith}
use lib.Seq.{sets, length-take-le}
use Rattle.text_digits.proofs.Decimals.{field_room, field_is}
use borrow.Author.Rules.{rules}
use Rattle.text_digits.proofs.put_field.Goals as goal

pub overflow_add-field : goal.overflow_add-field
overflow_add-field c =
    omega (arith, field_room c.args.n (omega arith) c.put_decimal-k.ensures.value)

pub slice_bounds-field-end : goal.slice_bounds-field-end
slice_bounds-field-end c =
    omega (arith, field_room c.args.n (omega arith) c.put_decimal-k.ensures.value)

pub slice_bounds-put_bytes-end : goal.slice_bounds-put_bytes-end
slice_bounds-put_bytes-end c =
    sym (length-take-le _ _ (omega (arith, field_room c.args.n (omega arith) c.put_decimal-k.ensures.value)))

pub overflow_add-result : goal.overflow_add-result
overflow_add-result c =
    omega (arith, field_room c.args.n (omega arith) c.put_decimal-k.ensures.value)

pub returns : goal.returns
returns c =
    let is = field_is c.args.n (omega arith) c.put_decimal-k.ensures.value c.put_decimal-k.ensures.out_after in record { value = omega (arith, c.put_decimal-k.ensures.value); out_after = c.put_bytes.ensures ∙ ap (sets c.args.out.now c.args.at) is }
