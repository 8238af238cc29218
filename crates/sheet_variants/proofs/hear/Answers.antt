use Rattle.std.proofs.lemmas.Result.{err_from_is_err_and}
use borrow.Author.Rules.{rules}
use Rattle.sheet_variants.proofs.hear.Goals as goal

pub returns-in_err-outcome : goal.returns-in_err-outcome
returns-in_err-outcome c =
    let p = err_from_is_err_and c.from_residual.result c.from_residual.ensures.1 in
    rw (p.1, p.2)
    (rw (c.in_err-outcome.was))

pub returns : goal.returns
returns c = rw (c.in_ok-outcome.was, ← c.bytes_of-joined.ensures) (c.setting_of.ensures.value)
