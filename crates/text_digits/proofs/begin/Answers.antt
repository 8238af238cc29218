use borrow.Author.Tests.{not-true, not-false}
use mathlib.Core.Path.{sym, ◌∙◌}
use native.Mathlib.Omega.{arith}
use borrow.Author.Tests.{eq-eqb, ne_eqb}
use Rattle.text_digits.specs.Digits.{first_digit}
use Rattle.text_digits.proofs.Steps as laws
use borrow.Author.Rules.{rules}
use Rattle.text_digits.proofs.begin.Goals as goal

pub returns-then-not-is_digit : goal.returns-then-not-is_digit
unfolding first_digit
returns-then-not-is_digit c = rw (sym (c.is_digit.ensures) ∙ c.if-not-is_digit.true)

pub returns-then-b-eq48 : goal.returns-then-b-eq48
unfolding first_digit
returns-then-b-eq48 c = rw (sym (c.is_digit.ensures) ∙ c.if-not-is_digit.false, eq-eqb (c.args.b) 48 (c.if-b-eq48.true))

pub overflow_sub-b : goal.overflow_sub-b
overflow_sub-b c = omega (arith, laws.digit_range (c.args.b) (sym (c.is_digit.ensures) ∙ c.if-not-is_digit.false))

pub returns : goal.returns
unfolding first_digit
returns c = rw (sym (c.is_digit.ensures) ∙ c.if-not-is_digit.false, ne_eqb (c.args.b) 48 (c.if-b-eq48.false)) ((c.grow.ensures ∙ laws.from_zero _ _))
