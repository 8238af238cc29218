use native.Mathlib.Omega.{arith}
use Rattle.set_loose.proofs.Walk as laws
use Rattle.set_loose.proofs.rows_without.Goals as goal

pub loop-i-init : goal.loop-i-init
loop-i-init c = laws.moves_start _ _ _ c.well_formed.0.1.0.1 c.requires

pub loop-i-preserved : goal.loop-i-preserved
loop-i-preserved c = laws.moves_go c.loop-i.invariant (omega arith) c.stood.ensures

pub returns : goal.returns
returns c = laws.moves_end c.loop-i.invariant (omega arith)
