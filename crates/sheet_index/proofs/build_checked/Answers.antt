use native.Mathlib.Omega.{arith}
use mathlib.Core.Path.{ap}
use lib.ListN.{length}
use Rattle.sheet_index.proofs.Builds as laws
use borrow.Author.Rules.{rules}
use Rattle.sheet_index.proofs.build_checked.Goals as goal

pub returns-then-join-lt-MAX_TEXT : goal.returns-then-join-lt-MAX_TEXT
returns-then-join-lt-MAX_TEXT c = let r = laws.checked_join c.args.text.now c.args.join.now c.args.table.now c.args.out.now (omega (arith, c.if-join-lt-MAX_TEXT.true)) in record { value = r.0; join_after = r.1.0; table_after = r.1.1.0; out_after = r.1.1.1 }

pub measure-sizes-requires : goal.measure-sizes-requires
measure-sizes-requires c = (c.requires, omega (arith, c.if-join-lt-MAX_TEXT.false))

pub returns-then-table-sizes : goal.returns-then-table-sizes
returns-then-table-sizes c = let r = laws.checked_table c.args.text.now c.args.join.now c.args.table.now c.args.out.now (omega (arith, c.if-join-lt-MAX_TEXT.false)) c.measure-sizes.ensures.value c.measure-sizes.ensures.join_after (omega (arith, c.if-table-sizes.true)) in record { value = r.0; join_after = r.1.0; table_after = r.1.1.0; out_after = r.1.1.1 }

pub returns-then-out-sizes : goal.returns-then-out-sizes
returns-then-out-sizes c = let r = laws.checked_text c.args.text.now c.args.join.now c.args.table.now c.args.out.now (omega (arith, c.if-join-lt-MAX_TEXT.false)) c.measure-sizes.ensures.value c.measure-sizes.ensures.join_after (omega (arith, c.if-table-sizes.false)) (omega (arith, c.if-out-sizes.true)) in record { value = r.0; join_after = r.1.0; table_after = r.1.1.0; out_after = r.1.1.1 }

pub lay-requires : goal.lay-requires
lay-requires c =
    let k = c.measure-sizes.auto in record { text_len_bound = (c.requires, omega (arith, c.if-join-lt-MAX_TEXT.false, ap length c.measure-sizes.ensures.join_after, k)); text_len_bound_2 = laws.lay_room c.args.text.now c.args.join.now c.args.table.now c.args.out.now (omega (arith, c.if-join-lt-MAX_TEXT.false)) c.measure-sizes.ensures.value c.measure-sizes.ensures.join_after (omega (arith, c.if-table-sizes.false)) (omega (arith, c.if-out-sizes.false)) }

pub returns : goal.returns
returns c = let r = laws.checked_whole c.args.text.now c.args.join.now c.args.table.now c.args.out.now (omega (arith, c.if-join-lt-MAX_TEXT.false)) c.measure-sizes.ensures.value c.measure-sizes.ensures.join_after (omega (arith, c.if-table-sizes.false)) (omega (arith, c.if-out-sizes.false)) c.lay.ensures.join_after c.lay.ensures.table_after c.lay.ensures.out_after in record { value = r.0; join_after = r.1.0; table_after = r.1.1.0; out_after = r.1.1.1 }
