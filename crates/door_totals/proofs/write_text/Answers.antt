use Rattle.std.proofs.lemmas.Result.{err_from_is_err_and}
use mathlib.Core.Path.{refl}
use borrow.Author.Rules.{rules}
use Rattle.door_totals.proofs.write_text.Goals as goal

pub returns-in_err-room : goal.returns-in_err-room
returns-in_err-room c =
    let p = err_from_is_err_and c.from_residual.result c.from_residual.ensures.1 in
    rw (p.1, p.2)
    (record { value = rw c.in_err-room.was (refl); out_after = rw c.in_err-room.was (refl) })

pub returns : goal.returns
returns c = record { value = rw c.in_ok-room.was (c.put_totals.ensures.value); out_after = rw c.in_ok-room.was (c.put_totals.ensures.out_after) }
