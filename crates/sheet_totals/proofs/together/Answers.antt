use mathlib.Core.Path.{sym, ◌∙◌}
use native.Mathlib.Omega.{arith}
use borrow.Author.Rules.{rules}
use Rattle.sheet_totals.proofs.Adding as laws
use Rattle.sheet_totals.proofs.together.Goals as goal

pub returns-then-x-y : goal.returns-then-x-y
returns-then-x-y c = sym (laws.at_longest _ _ (omega arith) ∙ laws.larger_right _ _ (omega arith))

pub returns-then-i-eq-LONGEST : goal.returns-then-i-eq-LONGEST
returns-then-i-eq-LONGEST c = sym (laws.at_longest _ _ (omega arith) ∙ laws.larger_left _ _ (omega arith))

pub overflow_add-result : goal.overflow_add-result
overflow_add-result c = omega (arith, laws.fits_other _ _ (λ e. omega arith) c.requires)

pub returns : goal.returns
returns c = sym (laws.at_other _ _ (λ e. omega arith))
