use mathlib.Core.Path.{refl}
use Rattle.base_refusals.proofs.Said.{said}
use Rattle.text_digits.specs.Digits.{decimal_paper}
use borrow.Author.Rules.{rules}
use Rattle.text_digits.proofs.read_out.Goals as goal

pub returns-in-NoDigit : goal.returns-in-NoDigit
returns-in-NoDigit c = said decimal_paper refl (rw c.in-NoDigit.is)

pub returns-in-Zero : goal.returns-in-Zero
returns-in-Zero c = said decimal_paper refl (rw c.in-Zero.is)

pub returns-in-Number : goal.returns-in-Number
returns-in-Number c = said decimal_paper refl (rw c.in-Number.is)

pub returns-in-Bad : goal.returns-in-Bad
returns-in-Bad c = said decimal_paper refl (rw c.in-Bad.is)
