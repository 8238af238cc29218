use Prim.Native.Nat.{◌-◌}
use native.Mathlib.Omega.{arith}
use lib.ListN.{length}
use Prim.Native.Nat.{suc}
use Rattle.sheet_records.specs.Records.{index_header}
use Rattle.sheet_records.specs.Computed.{rows_from}
use Rattle.sheet_index.specs.Inner.{found_among}
use Rattle.sheet_index.proofs.Rows as laws
use borrow.Author.Rules.{rules}
use Rattle.sheet_index.proofs.find_from.Goals as goal

pub rows-init : goal.rows-init
rows-init c = laws.looks_start _ _

pub returns-then-index-at : goal.returns-then-index-at
returns-then-index-at c = laws.looks_end c.rows.invariant (omega (arith, c.if-index-at.true))

pub returns-in-None : goal.returns-in-None
returns-in-None c = laws.looks_bad c.rows.invariant c.record_at.ensures.value (omega (arith, c.if-index-at.false)) c.in-None.is

pub rows-smaller : goal.rows-smaller
rows-smaller c = laws.look_less c.rows.invariant c.record_at.ensures.value (omega (arith, c.if-index-at.false)) c.in-Some.is

pub rows-preserved : goal.rows-preserved
rows-preserved c = laws.looks_go c.rows.invariant c.record_at.ensures.value (omega (arith, c.if-index-at.false)) c.in-Some.is c.first_of-found.ensures
