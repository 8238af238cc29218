use mathlib.Core.Path.{refl}
use Rattle.base_refusals.proofs.Said.{said}
use Rattle.text_digits.specs.Digits.{digits_step, digits_paper}
use borrow.Author.Rules.{rules}
use Rattle.text_digits.proofs.step.Goals as goal

pub returns-in-NoDigit : goal.returns-in-NoDigit
unfolding digits_step
returns-in-NoDigit c = said digits_paper refl (rw (c.in-NoDigit.is) (c.begin.ensures))

pub returns-in-Zero : goal.returns-in-Zero
unfolding digits_step
returns-in-Zero c = said digits_paper refl (rw (c.in-Zero.is))

pub returns-in-Number : goal.returns-in-Number
unfolding digits_step
returns-in-Number c = said digits_paper refl (rw (c.in-Number.is) (c.go_on.ensures))

pub returns-in-Bad : goal.returns-in-Bad
unfolding digits_step
returns-in-Bad c = said digits_paper refl (rw (c.in-Bad.is))
