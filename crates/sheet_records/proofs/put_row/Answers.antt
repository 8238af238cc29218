use native.Mathlib.Omega.{arith}
use lib.ListN.{length-set}
use Rattle.sheet_records.proofs.Lines as laws
use borrow.Author.Rules.{rules}
use Rattle.sheet_records.proofs.put_row.Goals as goal

pub returns-then-table-k : goal.returns-then-table-k
returns-then-table-k c = laws.row_none _ _ _ (omega (arith, c.if-table-k.true))

pub bounds-table-i-2 : goal.bounds-table-i-2
bounds-table-i-2 c = simp length-set (omega arith)

pub bounds-table-i-3 : goal.bounds-table-i-3
bounds-table-i-3 c = simp length-set (omega arith)

pub bounds-table-i-4 : goal.bounds-table-i-4
bounds-table-i-4 c = simp length-set (omega arith)

pub bounds-table-i-5 : goal.bounds-table-i-5
bounds-table-i-5 c = simp length-set (omega arith)

pub returns : goal.returns
returns c = laws.row_put _ _ _ (omega (arith, c.if-table-k.false))
