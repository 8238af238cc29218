use Prim.Native.Nat.{◌-◌}
use Rattle.run_stops.specs.Stops.{edge_of}
use Rattle.run_stops.proofs.Laws as laws
use Rattle.run_stops.proofs.edge_of.Given as goal

abbrev pub invariant-loop : goal.invariant-loop
invariant-loop l = laws.Edges l.text (edge_of l.text l.at l.lines) (l.lines - l.counter) l.e
