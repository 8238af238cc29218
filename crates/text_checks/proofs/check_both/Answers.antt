use Rattle.std.specs.Prelude.{Err}
use Rattle.std.proofs.lemmas.Result.{err_from_is_err_and}
use mathlib.Core.Path.{sym, ◌∙◌, ap}
use Rattle.base_refusals.specs.Numbers.{outcome_no}
use Rattle.base_refusals.proofs.Said.{said}
use Rattle.text_checks.proofs.CheckNumbers.{both_no, both_is}
use borrow.Author.Rules.{rules}
use Rattle.text_checks.proofs.check_both.Goals as goal

pub returns-in_err-check_text : goal.returns-in_err-check_text
returns-in_err-check_text c =
    let p = err_from_is_err_and c.from_residual.result c.from_residual.ensures.1 in
    said outcome_no (both_no _ _)
    (rw (← both_is _ _, sym c.check_text.ensures.value ∙ c.in_err-check_text.was) (p.1 ∙ ap (λ r. Err r) p.2))

pub returns : goal.returns
returns c =
    said outcome_no (both_no _ _)
    (rw (← both_is _ _, sym c.check_text.ensures.value ∙ c.in_ok-check_text.was) c.check_text-2.ensures.value)
