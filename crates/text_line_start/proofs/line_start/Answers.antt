use Rattle.std.specs.Prelude.{Err}
use Rattle.std.proofs.lemmas.Result.{err_from_is_err_and}
use mathlib.Core.Path.{◌∙◌, ap}
use Rattle.base_refusals.proofs.Said.{said}
use Rattle.text_line_start.specs.Starts.{start_at, start_paper}
use Rattle.text_line_start.proofs.StartNumbers.{start_paper_lem}
use borrow.Author.Rules.{rules}
use Rattle.text_line_start.proofs.line_start.Goals as goal

pub returns-in_err-check_text : goal.returns-in_err-check_text
unfolding start_at
returns-in_err-check_text c =
    let a = c.args in
    let p = err_from_is_err_and c.from_residual.result c.from_residual.ensures.1 in
    said start_paper (start_paper_lem a.text.now a.line) (rw (← c.check_text.ensures.value, c.in_err-check_text.was) (p.1 ∙ ap (λ r. Err r) p.2))

pub returns-in-None : goal.returns-in-None
unfolding start_at
returns-in-None c = let a = c.args in said start_paper (start_paper_lem a.text.now a.line) (rw (← c.check_text.ensures.value, c.in_ok-check_text.was, ← c.line_of.ensures.value, c.in-None.is))

pub returns-in-Some : goal.returns-in-Some
unfolding start_at
returns-in-Some c =
    let a = c.args in
    said start_paper (start_paper_lem a.text.now a.line) (rw (← c.check_text.ensures.value, c.in_ok-check_text.was, ← c.line_of.ensures.value, c.in-Some.is))
