use mathlib.Core.Path.{sym, ◌∙◌}
use native.Mathlib.Omega.{arith}
use borrow.Author.Tests.{not-true, not-false}
use Rattle.text_digits.proofs.Steps.{digit_range}
use Rattle.sheet_records.proofs.Places as laws
use borrow.Author.Rules.{rules}
use Rattle.sheet_records.proofs.field_at.Goals as goal

pub returns-then-index-at : goal.returns-then-index-at
returns-then-index-at c = laws.field_past _ _ _ (omega (arith, c.if-index-at.true))

pub returns-then-not-is_digit : goal.returns-then-not-is_digit
returns-then-not-is_digit c = laws.field_other _ _ _ (omega (arith, c.if-index-at.false)) (sym c.is_digit.ensures ∙ c.if-not-is_digit.true)

pub returns-then-b-eq48 : goal.returns-then-b-eq48
returns-then-b-eq48 c = laws.field_zero _ _ _ (omega (arith, c.if-index-at.false)) (sym c.is_digit.ensures ∙ c.if-not-is_digit.false) (omega (arith, c.if-b-eq48.true)) c.zero_to.ensures

pub overflow_sub-b : goal.overflow_sub-b
overflow_sub-b c = omega (arith, digit_range _ (sym c.is_digit.ensures ∙ c.if-not-is_digit.false))

pub overflow_cast-b : goal.overflow_cast-b
overflow_cast-b c = omega (arith, digit_range _ (sym c.is_digit.ensures ∙ c.if-not-is_digit.false))

pub number_to-requires : goal.number_to-requires
number_to-requires c = omega (arith, digit_range _ (sym c.is_digit.ensures ∙ c.if-not-is_digit.false))

pub returns : goal.returns
returns c = laws.field_number _ _ _ (omega (arith, c.if-index-at.false)) (sym c.is_digit.ensures ∙ c.if-not-is_digit.false) (λ z. omega (arith, c.if-b-eq48.false)) c.number_to.ensures
