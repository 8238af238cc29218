use Rattle.run_stops.specs.Stops.{source_of}
use Rattle.run_stops.proofs.Laws as laws
use Rattle.run_stops.proofs.source_place.Given as goal

abbrev pub invariant-loop-row : goal.invariant-loop-row
invariant-loop-row l = laws.Sources l.text (source_of l.text l.at l.lines l.k) l.lines l.row l.from l.rest
