use native.Mathlib.Omega.{arith}
use lib.ListN.{length-set}
use Rattle.set_canon.specs.Canon.{canon}
use Rattle.set_table.specs.Types.{two}
use Rattle.set_table.specs.Rows.{meaning_of}
use Rattle.sheet_report.specs.Report.{block_word}
use Rattle.sheet_report.proofs.Laying as laying
use borrow.Author.Rules.{rules}
use Rattle.sheet_report.proofs.lay_set.Goals as goal

pub put_front-k-requires : goal.put_front-k-requires
put_front-k-requires c = omega (arith, c.requires, laying.front_le block_word c.args.n c.args.lines (omega arith) (omega arith))

pub bounds-out-k : goal.bounds-out-k
bounds-out-k c =
    omega (arith, laying.front_room block_word c.args.n c.args.lines (omega arith) (omega arith) (omega arith) c.requires c.put_front-k.ensures)

pub overflow_add-k : goal.overflow_add-k
overflow_add-k c =
    omega (arith, laying.front_room block_word c.args.n c.args.lines (omega arith) (omega arith) (omega arith) c.requires c.put_front-k.ensures)

pub put_set-requires : goal.put_set-requires
put_set-requires c =
    simp length-set (omega (arith, laying.front_room block_word c.args.n c.args.lines (omega arith) (omega arith) (omega arith) c.requires c.put_front-k.ensures))

pub lay_refused-requires : goal.lay_refused-requires
lay_refused-requires c =
    laying.over_room c.args.n c.args.lines (canon (meaning_of (two c.args.text.now c.args.joined.now) c.args.set)) c.put_front-k.ensures c.put_set.ensures.value c.put_set.ensures.out_after c.in-Err.is c.requires

pub overflow_add-e : goal.overflow_add-e
overflow_add-e c =
    omega (arith, laying.front_room block_word c.args.n c.args.lines (omega arith) (omega arith) (omega arith) c.requires c.put_front-k.ensures)

pub overflow_add-e-in-Ok : goal.overflow_add-e-in-Ok
overflow_add-e-in-Ok c =
    omega (arith, laying.canon_room c.args.n c.args.lines (canon (meaning_of (two c.args.text.now c.args.joined.now) c.args.set)) c.put_front-k.ensures c.put_set.ensures.value c.put_set.ensures.out_after c.in-Ok.is c.requires (omega arith) (omega arith))

pub bounds-out-e : goal.bounds-out-e
bounds-out-e c =
    omega (arith, laying.canon_room c.args.n c.args.lines (canon (meaning_of (two c.args.text.now c.args.joined.now) c.args.set)) c.put_front-k.ensures c.put_set.ensures.value c.put_set.ensures.out_after c.in-Ok.is c.requires (omega arith) (omega arith))

pub overflow_add-result : goal.overflow_add-result
overflow_add-result c =
    omega (arith, laying.canon_room c.args.n c.args.lines (canon (meaning_of (two c.args.text.now c.args.joined.now) c.args.set)) c.put_front-k.ensures c.put_set.ensures.value c.put_set.ensures.out_after c.in-Ok.is c.requires (omega arith) (omega arith))

pub shape_of-out-in-Err : goal.shape_of-out-in-Err
shape_of-out-in-Err c =
    laying.put_long (laying.over-put c.args.n c.args.lines (canon (meaning_of (two c.args.text.now c.args.joined.now) c.args.set)) c.put_front-k.ensures c.put_set.ensures.value c.put_set.ensures.out_after c.in-Err.is c.requires (omega arith) (omega arith) c.lay_refused.ensures)

pub returns-in-Err : goal.returns-in-Err
returns-in-Err c =
    laying.over-put c.args.n c.args.lines (canon (meaning_of (two c.args.text.now c.args.joined.now) c.args.set)) c.put_front-k.ensures c.put_set.ensures.value c.put_set.ensures.out_after c.in-Err.is c.requires (omega arith) (omega arith) c.lay_refused.ensures

pub shape_of-out-in-Ok : goal.shape_of-out-in-Ok
shape_of-out-in-Ok c =
    laying.put_long (laying.canon-put c.args.n c.args.lines (canon (meaning_of (two c.args.text.now c.args.joined.now) c.args.set)) c.put_front-k.ensures c.put_set.ensures.value c.put_set.ensures.out_after c.in-Ok.is)

pub returns-in-Ok : goal.returns-in-Ok
returns-in-Ok c =
    laying.canon-put c.args.n c.args.lines (canon (meaning_of (two c.args.text.now c.args.joined.now) c.args.set)) c.put_front-k.ensures c.put_set.ensures.value c.put_set.ensures.out_after c.in-Ok.is
