use mathlib.Core.Path.{◌≡◌, sym, ◌∙◌}
use Prim.Native.Nat.{max}
use native.Mathlib.Omega.{arith}
use lib.ListN.{length}
use Rattle.text_digits.proofs.Steps.{digit_range}
use Rattle.sheet_records.proofs.Places as laws
use Rattle.sheet_records.proofs.number_to.Goals as goal

pub loop-i-init : goal.loop-i-init
loop-i-init c = (laws.reads_start _ _ _ _ c.requires, omega arith)

pub returns-then-not-is_digit : goal.returns-then-not-is_digit
returns-then-not-is_digit c = c.up_from.ensures ∙ laws.numbers_stop c.loop-i.invariant.0.is (omega arith) (sym c.is_digit.ensures ∙ c.if-not-is_digit.true)

pub overflow_mul-n : goal.overflow_mul-n
overflow_mul-n c = omega (arith, c.loop-i.invariant.0.small)

pub overflow_sub-n : goal.overflow_sub-n
overflow_sub-n c = omega (arith, (digit_range _ (sym c.is_digit.ensures ∙ c.if-not-is_digit.false)))

pub overflow_cast-n : goal.overflow_cast-n
overflow_cast-n c = omega (arith, (digit_range _ (sym c.is_digit.ensures ∙ c.if-not-is_digit.false)))

pub overflow_add-n : goal.overflow_add-n
overflow_add-n c = omega (arith, c.loop-i.invariant.0.small, (digit_range _ (sym c.is_digit.ensures ∙ c.if-not-is_digit.false)))

pub returns-then-n-gt65535 : goal.returns-then-n-gt65535
returns-then-n-gt65535 c = laws.reads_over c.loop-i.invariant.0 (omega arith) (sym c.is_digit.ensures ∙ c.if-not-is_digit.false) (omega (arith, c.if-n-gt65535.true))

pub loop-i-preserved : goal.loop-i-preserved
loop-i-preserved c = (laws.reads_go c.loop-i.invariant.0 (omega arith) (sym c.is_digit.ensures ∙ c.if-not-is_digit.false) (omega (arith, c.if-n-gt65535.false)), omega arith)

pub returns : goal.returns
returns c =
    let e : max c.args.from (length c.args.index.now) ≡ c.loop-i.i = omega (arith, c.loop-i.invariant.1, c.loop-i.auto.i) in
    (rw (c.max.ensures, e) at c.up_from-2.ensures) ∙ laws.numbers_end c.loop-i.invariant.0.is (omega arith)
