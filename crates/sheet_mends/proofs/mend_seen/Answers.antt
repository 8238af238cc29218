use native.Mathlib.Omega.{arith}
use lib.Seq.{slice}
use Rattle.base_refusals.specs.Numbers.{max_text}
use Rattle.sheet_blocks.specs.Sheets.{tries_at}
use Rattle.sheet_records.specs.Listed.{records_of}
use Rattle.sheet_mends.proofs.Assembling as laws
use Rattle.sheet_mends.proofs.Orders as orders
use borrow.Author.Rules.{rules}
use Rattle.sheet_mends.proofs.mend_seen.Goals as goal

pub measure_mended-size-requires : goal.measure_mended-size-requires
measure_mended-size-requires c =
    c.requires

pub returns-then-table-size : goal.returns-then-table-size
returns-then-table-size c =
    let a = c.args in
    let m = c.measure_mended-size.ensures in
    let r = orders.room_table (records_of a.new.now) a.table.now a.out.now m.records_value.0 m.records_value.1 (omega (arith, c.if-table-size.true)) in record { value = r.0; join_after = m.join_after; table_after = r.1.0; out_after = r.1.1 }

pub returns-then-out-size : goal.returns-then-out-size
returns-then-out-size c =
    let a = c.args in
    let m = c.measure_mended-size.ensures in
    let r = orders.room_text (records_of a.new.now) a.table.now a.out.now m.records_value.0 m.records_value.1 (omega (arith, c.if-table-size.false)) (omega (arith, c.if-out-size.true)) in record { value = r.0; join_after = m.join_after; table_after = r.1.0; out_after = r.1.1 }

pub lay_mended-requires : goal.lay_mended-requires
lay_mended-requires c =
    let a = c.args in
    let w = c.requires in
    let m = c.measure_mended-size in record { may_mend = laws.still a.old.now a.new.now a.p a.e a.n a.index.now a.join.now a.seen w (omega (arith, w.wide, m.auto)); len_bound = (omega (arith, m.ensures.records_value.0, c.if-table-size.false), omega (arith, m.ensures.records_value.1, c.if-out-size.false)) }

pub returns : goal.returns
returns c =
    let a = c.args in
    let m = c.measure_mended-size.ensures in
    let l = c.lay_mended.ensures in
    let r = orders.room_whole (records_of a.new.now) a.table.now a.out.now m.records_value.0 m.records_value.1 (omega (arith, c.if-table-size.false)) (omega (arith, c.if-out-size.false)) l.table_after l.out_after in record { value = r.0; join_after = orders.twice a.join.now (tries_at (slice a.p a.n a.new.now) max_text 1 0) m.join_after l.join_after; table_after = r.1.0; out_after = r.1.1 }
