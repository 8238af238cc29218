use Rattle.std.proofs.lemmas.Result.{err_from_is_err_and}
use Rattle.sheet_index.proofs.Rows as laws
use borrow.Author.Rules.{rules}
use Rattle.sheet_index.proofs.count_rows.Goals as goal

pub returns-in_err-head_of : goal.returns-in_err-head_of
returns-in_err-head_of c =
    let p = err_from_is_err_and c.from_residual.result c.from_residual.ensures.1 in
    rw (p.1, p.2)
    (laws.count_refused _ c.head_of.ensures.value c.in_err-head_of.was)

pub returns : goal.returns
returns c = laws.count_passed _ c.head_of.ensures.value c.in_ok-head_of.was c.count_from.ensures
