use native.Mathlib.Omega.{arith}
use Rattle.door_columns.proofs.Laying as laws
use Rattle.door_columns.proofs.lay_columns.Goals as goal

pub loop-i-init : goal.loop-i-init
loop-i-init c = laws.lays_start _ _ _ c.well_formed.1.0.1.0.1

pub loop-i-preserved : goal.loop-i-preserved
loop-i-preserved c = laws.lays_go c.loop-i.invariant (omega (arith, c.min-i-end.ensures)) (omega (arith, c.min-i-end.ensures)) c.lay_column.ensures

pub returns : goal.returns
returns c = laws.lays_end c.loop-i.invariant (omega (arith, c.min-i-end.ensures))
