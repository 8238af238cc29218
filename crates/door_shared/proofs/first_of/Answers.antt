use Rattle.std.specs.Prelude.{Err}
use Rattle.std.proofs.lemmas.Result.{err_from_is_err_and}
use mathlib.Core.Path.{◌∙◌, ap}
use Rattle.base_refusals.specs.Numbers.{outcome_no}
use Rattle.base_refusals.proofs.Said.{said}
use Rattle.door_shared.proofs.Laws.{first_no}
use borrow.Author.Rules.{rules}
use Rattle.door_shared.proofs.first_of.Goals as goal

pub returns-in_err-a : goal.returns-in_err-a
returns-in_err-a c =
    let a = c.args in let p = err_from_is_err_and c.from_residual.result c.from_residual.ensures.1 in
    said outcome_no (first_no a.a a.b) (rw c.in_err-a.was (p.1 ∙ ap (λ r. Err r) p.2))

pub returns : goal.returns
returns c = let a = c.args in said outcome_no (first_no a.a a.b) (rw c.in_ok-a.was)
