use native.Mathlib.Omega.{arith}
use Prim.Native.Nat.{◌-◌}
use Rattle.sheet_report.proofs.Laying.{put_long}
use Rattle.sheet_valves.specs.Tables.{variant_count}
use Rattle.sheet_listing.proofs.Listings as laws
use Rattle.sheet_listing.proofs.lay_table.Goals as goal

pub loop-v-init : goal.loop-v-init
loop-v-init c = laws.lists_start _ _

pub put_row-at-requires : goal.put_row-at-requires
put_row-at-requires c = let inv = c.loop-v.invariant in (omega (arith, c.requires, inv.short, put_long inv.put), omega arith)

pub loop-v-preserved : goal.loop-v-preserved
loop-v-preserved c = laws.lists_go c.loop-v.invariant (omega arith) c.put_row-at.ensures.upper_bound c.put_row-at.ensures.put_at

pub shape_of-out : goal.shape_of-out
shape_of-out c = put_long c.loop-v.invariant.put

pub returns : goal.returns
returns c = let r = laws.lists_end c.loop-v.invariant (omega arith) in record { put_at = r.0; upper_bound = r.1 }
