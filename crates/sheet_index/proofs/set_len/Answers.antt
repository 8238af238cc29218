use native.Mathlib.Omega.{arith}
use Rattle.set_table.specs.Types.{two}
use Rattle.sheet_index.proofs.Builds as laws
use borrow.Author.Rules.{rules}
use Rattle.sheet_index.proofs.set_len.Goals as goal

pub overflow_add-result : goal.overflow_add-result
overflow_add-result c =
    omega (arith, laws.numbers_few (two c.args.first.now c.args.second.now) c.args.n c.args.lines c.args.at c.args.set (omega arith) (omega arith) (omega arith) c.raw_bytes-raw.ensures c.numbers_len-k.ensures)

pub overflow_add-result-then-set : goal.overflow_add-result-then-set
overflow_add-result-then-set c =
    omega (arith, laws.numbers_few (two c.args.first.now c.args.second.now) c.args.n c.args.lines c.args.at c.args.set (omega arith) (omega arith) (omega arith) c.raw_bytes-raw.ensures c.numbers_len-k.ensures, laws.id_few (two c.args.first.now c.args.second.now) c.args.n c.args.lines c.args.at c.args.set (omega arith) (omega arith) (omega arith) c.raw_bytes-raw.ensures c.numbers_len-k.ensures c.is_quoted.result c.id_len.ensures)

pub returns-then-set : goal.returns-then-set
returns-then-set c =
    laws.set_given (two c.args.first.now c.args.second.now) c.args.n c.args.lines c.args.at c.args.set (omega arith) (omega arith) (omega arith) c.raw_bytes-raw.ensures c.numbers_len-k.ensures c.is_quoted.result c.if-set.true c.is_quoted.ensures c.id_len.ensures

pub overflow_add-result-2 : goal.overflow_add-result-2
overflow_add-result-2 c =
    omega (arith, laws.numbers_few (two c.args.first.now c.args.second.now) c.args.n c.args.lines c.args.at c.args.set (omega arith) (omega arith) (omega arith) c.raw_bytes-raw.ensures c.numbers_len-k.ensures)

pub returns : goal.returns
returns c =
    laws.set_none (two c.args.first.now c.args.second.now) c.args.n c.args.lines c.args.at c.args.set (omega arith) (omega arith) (omega arith) c.raw_bytes-raw.ensures c.numbers_len-k.ensures c.if-set.false
