use Rattle.std.proofs.lemmas.Result.{err_from_is_err_and}
use native.Mathlib.Omega.{arith}
use Rattle.set_items.proofs.Laying as laws
use borrow.Author.Rules.{rules}
use Rattle.set_items.proofs.room_of.Goals as goal

pub returns-then-size-n : goal.returns-then-size-n
returns-then-size-n c =
    rw c.in_ok-c.was (laws.no_room c.args.n c.args.v c.args.size (omega arith))

pub returns-then-size-n-2 : goal.returns-then-size-n-2
returns-then-size-n-2 c = let a = c.args in rw c.in_ok-c.was (laws.no_room a.n a.v a.size (omega arith))

pub returns-in_err-c : goal.returns-in_err-c
returns-in_err-c c =
    let p = err_from_is_err_and c.from_residual.result c.from_residual.ensures.1 in
    rw (p.1, p.2)
    (rw c.in_err-c.was)

pub returns : goal.returns
returns c = let a = c.args in rw c.in_ok-c.was (laws.room a.n a.v a.size (omega arith))
