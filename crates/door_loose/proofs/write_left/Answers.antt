use Rattle.std.proofs.lemmas.Result.{err_from_is_err_and}
use borrow.Author.Rules.{rules}
use Rattle.door_loose.proofs.write_left.Goals as goal

pub returns-in_err-c : goal.returns-in_err-c
returns-in_err-c c =
    let p = err_from_is_err_and c.from_residual.result c.from_residual.ensures.1 in
    rw (p.1, p.2)
    (record { value = rw (c.in_err-c.was); out_after = rw (c.in_err-c.was) })

pub returns : goal.returns
returns c = record { value = rw c.in_ok-c.was c.write_attrs.ensures.value; out_after = rw c.in_ok-c.was c.write_attrs.ensures.out_after }
