use Rattle.std.proofs.lemmas.Result.{err_from_is_err_and}
use Rattle.base_refusals.proofs.Said.{said}
use Rattle.sheet_index.specs.Finding.{look_paper}
use Rattle.sheet_index.proofs.Rows as laws
use borrow.Author.Rules.{rules}
use Rattle.sheet_index.proofs.find_record.Goals as goal

pub returns-in_err-head_of : goal.returns-in_err-head_of
returns-in_err-head_of c =
    let p = err_from_is_err_and c.from_residual.result c.from_residual.ensures.1 in
    rw (p.1, p.2)
    (said look_paper (laws.find_paper _ _) (laws.find_refused _ _ c.head_of.ensures.value c.in_err-head_of.was))

pub returns : goal.returns
returns c = said look_paper (laws.find_paper _ _) (laws.find_passed _ _ c.head_of.ensures.value c.in_ok-head_of.was c.find_from.ensures)
