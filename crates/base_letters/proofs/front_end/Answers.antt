use mathlib.Core.Path.{sym, ◌∙◌}
use native.Mathlib.Omega.{arith}
use borrow.Author.Tests.{not-true, not-false}
use Rattle.base_letters.proofs.Fronts as fronts
use borrow.Author.Rules.{rules}
use Rattle.base_letters.proofs.front_end.Goals as goal

pub returns-then-s-i : goal.returns-then-s-i
returns-then-s-i c = fronts.none _ _ _ _ c.if-s-i.true

pub returns-then-not-is_of : goal.returns-then-not-is_of
returns-then-not-is_of c = fronts.refused _ _ _ _ (omega arith) (sym c.is_of.ensures ∙ c.if-not-is_of.true)

pub returns : goal.returns
returns c = fronts.taken _ _ _ _ (omega arith) (sym c.is_of.ensures ∙ c.if-not-is_of.false) c.run_end.ensures
