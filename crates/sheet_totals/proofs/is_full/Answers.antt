use native.Mathlib.Omega.{arith}
use borrow.Author.Rules.{rules}
use Rattle.sheet_totals.proofs.Adding as laws
use Rattle.sheet_totals.proofs.is_full.Goals as goal

pub returns-then-i-eq-LONGEST : goal.returns-then-i-eq-LONGEST
returns-then-i-eq-LONGEST c = laws.full_longest _ _ (omega arith) (omega arith) (omega arith)

pub returns : goal.returns
returns c = laws.full_other _ _ (λ e. omega arith) (omega arith)
