use native.Mathlib.Omega.{arith}
use Rattle.sheet_report.specs.Report.{refused_word}
use Rattle.sheet_report.proofs.Laying as laying
use borrow.Author.Rules.{rules}
use Rattle.sheet_report.proofs.lay_refused.Goals as goal

pub put_front-k-requires : goal.put_front-k-requires
put_front-k-requires c =
    omega (arith, c.requires, laying.front_le refused_word c.args.n c.args.lines (omega arith) (omega arith))

pub put_field-e-requires : goal.put_field-e-requires
put_field-e-requires c =
    omega (arith, laying.front_room refused_word c.args.n c.args.lines (omega arith) (omega arith) (omega arith) c.requires c.put_front-k.ensures, laying.number_short c.args.why c.number.ensures)

pub bounds-out-e : goal.bounds-out-e
bounds-out-e c =
    omega (arith, laying.front_room refused_word c.args.n c.args.lines (omega arith) (omega arith) (omega arith) c.requires c.put_front-k.ensures, laying.number_short c.args.why c.number.ensures, c.put_field-e.ensures.behind, laying.put_long c.put_field-e.ensures)

pub overflow_add-result : goal.overflow_add-result
overflow_add-result c =
    omega (arith, laying.front_room refused_word c.args.n c.args.lines (omega arith) (omega arith) (omega arith) c.requires c.put_front-k.ensures, laying.number_short c.args.why c.number.ensures, c.put_field-e.ensures.behind, laying.put_long c.put_field-e.ensures)

pub shape_of-out : goal.shape_of-out
shape_of-out c =
    laying.put_long (laying.refused_put c.args.n c.args.lines c.args.why c.put_front-k.ensures c.number.ensures c.put_field-e.ensures)

pub returns : goal.returns
returns c =
    laying.refused_put c.args.n c.args.lines c.args.why c.put_front-k.ensures c.number.ensures c.put_field-e.ensures
