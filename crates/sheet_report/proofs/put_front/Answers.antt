use native.Mathlib.Omega.{arith}
use Rattle.sheet_report.specs.Puts.{line_front}
use Rattle.sheet_report.proofs.Laying as laying
use borrow.Author.Rules.{rules}
use Rattle.sheet_report.proofs.put_front.Goals as goal

pub overflow_add-at : goal.overflow_add-at
overflow_add-at c = omega (arith, c.requires, laying.front_length c.args.word.now c.args.n c.args.lines)

pub put_field-e-requires : goal.put_field-e-requires
put_field-e-requires c =
    omega (arith, c.requires, laying.front_length c.args.word.now c.args.n c.args.lines, laying.put_long (laying.put_is c.args.out.now c.args.at c.args.word.now c.put_bytes.ensures))

pub put_field-requires : goal.put_field-requires
put_field-requires c =
    omega (arith, c.requires, laying.front_length c.args.word.now c.args.n c.args.lines, laying.put_long (laying.put_is c.args.out.now c.args.at c.args.word.now c.put_bytes.ensures), laying.put_long c.put_field-e.ensures, c.put_field-e.ensures.behind)

pub returns : goal.returns
unfolding line_front
returns c =
    laying.put_then (laying.put_is c.args.out.now c.args.at c.args.word.now c.put_bytes.ensures) (laying.put_then c.put_field-e.ensures c.put_field.ensures)
