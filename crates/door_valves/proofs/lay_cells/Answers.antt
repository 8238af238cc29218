use native.Mathlib.Omega.{arith}
use Rattle.door_valves.proofs.Says as laws
use Rattle.door_valves.proofs.lay_cells.Goals as goal

pub loop-i-init : goal.loop-i-init
loop-i-init c = laws.cells_start _ _

pub loop-i-preserved : goal.loop-i-preserved
loop-i-preserved c =
    rw c.cell_number.ensures (laws.cells_go (c.well_formed.0.1.1.0.1.0.1) c.loop-i.invariant (omega (arith, c.min-n.ensures)))

pub returns : goal.returns
returns c = laws.cells_end (c.well_formed.0.1.1.0.1.0.1) c.loop-i.invariant (omega (arith, c.min-n.ensures, c.loop-i.invariant.laid.size))
