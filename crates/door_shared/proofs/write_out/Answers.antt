use Rattle.std.proofs.lemmas.Result.{err_from_is_err_and}
use lib.ListN.{length}
use Rattle.set_canon.specs.Canon.{canon}
use Rattle.set_table.specs.Types.{two}
use Rattle.set_table.specs.Rows.{meaning_of}
use Rattle.set_writer.proofs.Numbers.{said}
use Rattle.door_shared.proofs.Laws.{out_no}
use borrow.Author.Rules.{rules}
use Rattle.door_shared.proofs.write_out.Goals as goal

pub returns-in_err-c : goal.returns-in_err-c
returns-in_err-c c =
    let p = err_from_is_err_and c.from_residual.result c.from_residual.ensures.1 in
    rw (p.1, p.2)
    (let a = c.args in
    said (out_no a.c (canon (meaning_of (two a.first.now a.second.now) a.set)) (length a.out.now)) (rw (c.in_err-c.was), rw (c.in_err-c.was)))

pub returns : goal.returns
returns c =
    let a = c.args in
    said (out_no a.c (canon (meaning_of (two a.first.now a.second.now) a.set)) (length a.out.now)) (rw c.in_ok-c.was c.write_set.ensures.value, rw c.in_ok-c.was c.write_set.ensures.out_after)
