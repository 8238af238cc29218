use mathlib.Core.Path.{◌≡◌}
use Prim.Native.Nat.{◌+◌, ◌-◌}
use native.Mathlib.Omega.{arith}
use Rattle.run_stops.specs.Stops.{edge_of}
use Rattle.run_stops.proofs.Laws as laws
use Rattle.run_stops.proofs.edge_of.Goals as goal

pub loop-init : goal.loop-init
unfolding edge_of
loop-init c = let z : c.args.lines - 0 ≡ c.args.lines = omega arith in record { rest = rw z }

pub loop-preserved : goal.loop-preserved
loop-preserved c =
    let z : c.args.lines - (c.loop.counter + 1) ≡ c.args.lines - c.loop.counter - 1 = omega arith in
    rw z (laws.edges_go c.loop.invariant (omega arith) c.edge_after-e.ensures)

pub returns : goal.returns
returns c = laws.edges_end c.loop.invariant (omega arith)
