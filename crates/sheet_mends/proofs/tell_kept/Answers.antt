use Prim.Native.Nat.{◌-◌}
use native.Mathlib.Omega.{arith}
use borrow.Author.Rules.{rules}
use Rattle.sheet_mends.proofs.Tells as laws
use Rattle.sheet_mends.proofs.tell_kept.Goals as goal

pub rows-init : goal.rows-init
rows-init c =
    laws.keeps-start c.args.text.now c.args.index.now c.args.table.now c.args.out.now c.args.from c.args.to c.args.less c.args.more c.args.back c.args.forth c.args.so c.requires.from_le_to c.requires.index_value c.requires.all_in c.requires.more_le_max_text

pub shape_of-table-then-to-at : goal.shape_of-table-then-to-at
shape_of-table-then-to-at c = c.rows.invariant.table_long

pub shape_of-out-then-to-at : goal.shape_of-out-then-to-at
shape_of-out-then-to-at c = c.rows.invariant.out_long

pub returns-then-to-at : goal.returns-then-to-at
returns-then-to-at c = let r = laws.keeps_end c.rows.invariant (omega (arith, c.if-to-at.true)) in record { out_after = r.0; at_most = r.1 }

pub shape_of-table-in-None : goal.shape_of-table-in-None
shape_of-table-in-None c = c.rows.invariant.table_long

pub shape_of-out-in-None : goal.shape_of-out-in-None
shape_of-out-in-None c = c.rows.invariant.out_long

pub returns-in-None : goal.returns-in-None
returns-in-None c = laws.keeps_bad c.rows.invariant c.record_at.ensures.value (omega (arith, c.if-to-at.false)) c.in-None.is

pub overflow_sub-line : goal.overflow_sub-line
overflow_sub-line c = omega (arith, laws.line_is c.rows.invariant c.record_at.ensures.value (omega (arith, c.if-to-at.false)) c.in-Some.is)

pub overflow_add-line : goal.overflow_add-line
overflow_add-line c =
    omega (arith, laws.line_is c.rows.invariant c.record_at.ensures.value (omega (arith, c.if-to-at.false)) c.in-Some.is, c.rows.invariant.few_lines)

pub overflow_sub-offset : goal.overflow_sub-offset
overflow_sub-offset c = omega (arith, laws.offset_is c.rows.invariant c.record_at.ensures.value (omega (arith, c.if-to-at.false)) c.in-Some.is)

pub overflow_add-offset : goal.overflow_add-offset
overflow_add-offset c =
    omega (arith, laws.offset_is c.rows.invariant c.record_at.ensures.value (omega (arith, c.if-to-at.false)) c.in-Some.is, c.rows.invariant.few_bytes)

pub tell_row-told-requires : goal.tell_row-told-requires
tell_row-told-requires c =
    ((omega (arith, c.rows.invariant.few, c.rows.invariant.within, c.rows.invariant.inside, c.rows.invariant.size, c.requires.so_few), omega (arith, c.rows.invariant.short, c.rows.invariant.within, c.rows.invariant.inside, c.rows.invariant.size, c.requires.so_few)), c.rows.invariant.size)

pub rows-smaller : goal.rows-smaller
rows-smaller c = laws.keeps_less c.rows.invariant c.record_at.ensures.value (omega (arith, c.if-to-at.false)) c.in-Some.is

pub rows-preserved : goal.rows-preserved
rows-preserved c = laws.keeps_go c.rows.invariant c.record_at.ensures.value (omega (arith, c.if-to-at.false)) c.in-Some.is c.tell_row-told.ensures
