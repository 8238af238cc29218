use Rattle.run_stops.proofs.Laws as laws
use Rattle.run_stops.specs.Stops.{quote_left}
use Rattle.run_stops.proofs.quote_left.Given as goal

abbrev pub invariant-loop-i : goal.invariant-loop-i
invariant-loop-i l = laws.Quotes l.s (quote_left l.s l.from) l.st l.at l.i
