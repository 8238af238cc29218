use Rattle.std.proofs.lemmas.Result.{err_from_is_err_and}
use native.Mathlib.Omega.{arith}
use Rattle.sheet_index.proofs.Rows as laws
use borrow.Author.Rules.{rules}
use Rattle.sheet_index.proofs.read_index.Goals as goal

pub returns-then-table-n : goal.returns-then-table-n
returns-then-table-n c = let r = laws.read_full c.args.index.now c.args.table.now c.count_rows.ensures c.in_ok-n.was (omega (arith, c.if-table-n.true)) in record { value = r.0; table_after = r.1.0; result_value = r.1.1 }

pub lay_rows-requires : goal.lay_rows-requires
lay_rows-requires c =
    laws.rows_room c.args.index.now c.args.table.now c.count_rows.ensures c.in_ok-n.was (omega (arith, c.if-table-n.false))

pub returns-in_err-n : goal.returns-in_err-n
returns-in_err-n c =
    let p = err_from_is_err_and c.from_residual.result c.from_residual.ensures.1 in
    rw (p.1, p.2)
    (let r = laws.read_none c.args.index.now c.args.table.now c.count_rows.ensures c.in_err-n.was in record { value = r.0; table_after = r.1.0; result_value = r.1.1 })

pub returns : goal.returns
returns c = let r = laws.read_whole c.args.index.now c.args.table.now c.count_rows.ensures c.in_ok-n.was (omega (arith, c.if-table-n.false)) c.lay_rows.ensures in record { value = r.0; table_after = r.1.0; result_value = r.1.1 }
