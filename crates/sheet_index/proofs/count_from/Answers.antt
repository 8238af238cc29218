use Prim.Native.Nat.{◌-◌}
use native.Mathlib.Omega.{arith}
use lib.ListN.{length}
use Prim.Native.Nat.{suc}
use Rattle.sheet_records.specs.Records.{index_header}
use Rattle.sheet_records.specs.Computed.{rows_from}
use Rattle.sheet_index.specs.Inner.{counted_by}
use Rattle.sheet_index.proofs.Rows as laws
use borrow.Author.Rules.{rules}
use Rattle.sheet_index.proofs.count_from.Goals as goal

pub rows-init : goal.rows-init
rows-init c = laws.counts_start _

pub returns-then-index-at : goal.returns-then-index-at
returns-then-index-at c = laws.counts_end c.rows.invariant (omega (arith, c.if-index-at.true))

pub returns-in-None : goal.returns-in-None
returns-in-None c = laws.counts_bad c.rows.invariant c.record_at.ensures.value (omega (arith, c.if-index-at.false)) c.in-None.is

pub overflow_add-n : goal.overflow_add-n
overflow_add-n c = omega (arith, c.rows.invariant.few, c.if-index-at.false)

pub rows-smaller : goal.rows-smaller
rows-smaller c = laws.row_less c.rows.invariant c.record_at.ensures.value (omega (arith, c.if-index-at.false)) c.in-Some.is

pub rows-preserved : goal.rows-preserved
rows-preserved c = laws.counts_go c.rows.invariant c.record_at.ensures.value (omega (arith, c.if-index-at.false)) c.in-Some.is
