use Rattle.sheet_mends.proofs.Tells as laws
use Rattle.sheet_stands.proofs.Fronts.{numbers_le}
use native.Mathlib.Omega.{arith}
use borrow.Author.Rules.{rules}
use Rattle.sheet_mends.proofs.row_of.Goals as goal

pub overflow_add-end : goal.overflow_add-end
overflow_add-end c = omega (arith, numbers_le c.args.line c.args.count c.args.offset (omega arith) (omega arith) (omega arith), c.numbers_len.ensures, c.requires)

pub overflow_add-to : goal.overflow_add-to
overflow_add-to c =
    omega (arith, numbers_le c.args.line c.args.count c.args.offset (omega arith) (omega arith) (omega arith), c.numbers_len.ensures, c.requires)

pub overflow_add-to-then-given : goal.overflow_add-to-then-given
overflow_add-to-then-given c =
    omega (arith, numbers_le c.args.line c.args.count c.args.offset (omega arith) (omega arith) (omega arith), c.numbers_len.ensures, c.id_len.ensures, c.requires)

pub overflow_add-result : goal.overflow_add-result
overflow_add-result c =
    omega (arith, numbers_le c.args.line c.args.count c.args.offset (omega arith) (omega arith) (omega arith), c.numbers_len.ensures, c.id_len.ensures, c.requires)

pub overflow_add-result-then-given : goal.overflow_add-result-then-given
overflow_add-result-then-given c =
    omega (arith, numbers_le c.args.line c.args.count c.args.offset (omega arith) (omega arith) (omega arith), c.numbers_len.ensures, c.id_len.ensures, c.requires)

pub returns-then-given : goal.returns-then-given
returns-then-given c =
    laws.row_given c.args.at c.args.line c.args.count c.args.offset c.args.given c.args.quoted c.args.raw.now c.numbers_len.ensures c.id_len.ensures c.if-given.true

pub overflow_add-result-2 : goal.overflow_add-result-2
overflow_add-result-2 c =
    omega (arith, numbers_le c.args.line c.args.count c.args.offset (omega arith) (omega arith) (omega arith), c.numbers_len.ensures, c.requires)

pub returns : goal.returns
returns c =
    laws.row_none c.args.at c.args.line c.args.count c.args.offset c.args.given c.args.quoted c.args.raw.now c.numbers_len.ensures c.if-given.false
