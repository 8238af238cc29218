use Rattle.std.specs.Prelude.{Err}
use Rattle.std.proofs.lemmas.Result.{err_from_is_err_and}
use mathlib.Core.Path.{◌∙◌, ap}
use Rattle.base_refusals.specs.Numbers.{outcome_no}
use Rattle.base_refusals.proofs.Said.{said}
use Rattle.door_shared.proofs.Laws.{wrote_no}
use borrow.Author.Rules.{rules}
use Rattle.door_shared.proofs.wrote_outcome.Goals as goal

pub returns-in_err-w : goal.returns-in_err-w
returns-in_err-w c =
    let p = err_from_is_err_and c.from_residual.result c.from_residual.ensures.1 in
    said outcome_no (wrote_no c.args.w) (rw c.in_err-w.was (p.1 ∙ ap (λ r. Err r) p.2))

pub returns : goal.returns
returns c = said outcome_no (wrote_no c.args.w) (rw c.in_ok-w.was)
