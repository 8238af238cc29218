use Rattle.std.proofs.lemmas.Result.{err_from_is_err_and}
use Rattle.sheet_verdicts.proofs.Verdicts as laws
use borrow.Author.Rules.{rules}
use Rattle.sheet_verdicts.proofs.room_for.Goals as goal

pub returns-in_err-measure_set : goal.returns-in_err-measure_set
returns-in_err-measure_set c =
    let p = err_from_is_err_and c.from_residual.result c.from_residual.ensures.1 in
    rw (p.1, p.2)
    (laws.room_none _ c.measure_set.ensures.value c.in_err-measure_set.was)

pub returns : goal.returns
returns c = laws.room_some _ c.measure_set.ensures.value c.in_ok-measure_set.was
