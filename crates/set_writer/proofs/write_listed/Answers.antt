use Rattle.std.proofs.lemmas.Result.{err_from_is_err_and}
use mathlib.Core.Path.{refl}
use mathlib.Core.Bool.{false}
use Rattle.base_lists.proofs.More.{contra}
use native.Mathlib.Omega.{arith}
use Rattle.set_canon.specs.Canon.{canon}
use Rattle.set_table.specs.Types.{two}
use Rattle.set_table.specs.Rows.{listed_of}
use Rattle.set_writer.proofs.Room as room
use borrow.Author.Rules.{rules}
use Rattle.set_writer.proofs.Fills as fills
use Rattle.set_writer.proofs.write_listed.Goals as goal

pub walk-requires : goal.walk-requires
walk-requires c = record { cap_le_max_text = omega (arith, c.least-cap.ensures); set_len_bound = λ e. contra false e refl }

pub walk-requires-2 : goal.walk-requires-2
walk-requires-2 c =
    let xs = canon (listed_of (two c.args.first.now c.args.second.now) c.args.set) in record { cap_le_max_text = omega (arith, c.least-cap.ensures); set_len_bound = λ e. (room.fits xs c.args.out.now c.least-cap.ensures c.walk.ensures.value c.walk.ensures.out_after c.in_ok-walk.was, omega (arith, c.least-cap.ensures, c.walk.auto.out)) }

pub returns-in_err-walk : goal.returns-in_err-walk
returns-in_err-walk c =
    let p = err_from_is_err_and c.from_residual.result c.from_residual.ensures.1 in
    let xs = canon (listed_of (two c.args.first.now c.args.second.now) c.args.set) in
    rw (p.1, p.2)
    (fills.both (room.refused xs c.args.out.now c.least-cap.ensures c.walk.ensures.value c.walk.ensures.out_after c.in_err-walk.was))

pub returns : goal.returns
returns c =
    let xs = canon (listed_of (two c.args.first.now c.args.second.now) c.args.set) in
    fills.both (room.written xs c.args.out.now c.least-cap.ensures c.walk.ensures.value c.walk.ensures.out_after (room.fits xs c.args.out.now c.least-cap.ensures c.walk.ensures.value c.walk.ensures.out_after c.in_ok-walk.was) c.walk-2.ensures.value c.walk-2.ensures.out_after)
