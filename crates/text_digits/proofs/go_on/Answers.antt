use borrow.Author.Tests.{not-true, not-false}
use mathlib.Core.Path.{sym, ◌∙◌}
use native.Mathlib.Omega.{arith}
use Rattle.text_digits.specs.Digits.{grown}
use Rattle.text_digits.proofs.Steps as laws
use borrow.Author.Rules.{rules}
use Rattle.text_digits.proofs.go_on.Goals as goal

pub returns-then-not-is_digit : goal.returns-then-not-is_digit
unfolding grown
returns-then-not-is_digit c = rw (sym (c.is_digit.ensures) ∙ c.if-not-is_digit.true)

pub overflow_sub-b : goal.overflow_sub-b
overflow_sub-b c = omega (arith, laws.digit_range (c.args.b) (sym (c.is_digit.ensures) ∙ c.if-not-is_digit.false))

pub returns : goal.returns
unfolding grown
returns c = rw (sym (c.is_digit.ensures) ∙ c.if-not-is_digit.false) (c.grow.ensures)
