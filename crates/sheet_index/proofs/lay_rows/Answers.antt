use Prim.Native.Nat.{◌-◌}
use native.Mathlib.Omega.{arith}
use lib.ListN.{length}
use Rattle.sheet_index.proofs.Rows as laws
use borrow.Author.Rules.{rules}
use Rattle.sheet_index.proofs.lay_rows.Goals as goal

pub rows-init : goal.rows-init
rows-init c = laws.fills_start _ _ c.requires

pub shape_of-table-then-index-at : goal.shape_of-table-then-index-at
shape_of-table-then-index-at c = c.rows.invariant.long

pub returns-then-index-at : goal.returns-then-index-at
returns-then-index-at c =
    laws.fills_whole _ c.args.table.now c.requires.1 (laws.fills_end c.rows.invariant (omega (arith, c.if-index-at.true)))

pub shape_of-table-in-None : goal.shape_of-table-in-None
shape_of-table-in-None c = c.rows.invariant.long

pub returns-in-None : goal.returns-in-None
returns-in-None c = laws.fills_bad c.rows.invariant c.record_at.ensures.value (omega (arith, c.if-index-at.false)) c.in-None.is

pub overflow_add-k : goal.overflow_add-k
overflow_add-k c =
    omega (arith, laws.fill_seat c.rows.invariant c.record_at.ensures.value (omega (arith, c.if-index-at.false)) c.in-Some.is, c.rows.invariant.long)

pub rows-smaller : goal.rows-smaller
rows-smaller c = laws.fill_less c.rows.invariant c.record_at.ensures.value (omega (arith, c.if-index-at.false)) c.in-Some.is

pub rows-preserved : goal.rows-preserved
rows-preserved c = laws.fills_go c.rows.invariant c.record_at.ensures.value (omega (arith, c.if-index-at.false)) c.in-Some.is c.put_row.ensures
