use Rattle.std.specs.Prelude.{Some}
use Rattle.run_scanners.specs.Scanners.{hold_from}
use Rattle.run_scanners.proofs.Laws as laws
use Rattle.run_scanners.proofs.hold_on.Given as goal

abbrev pub invariant-loop-b : goal.invariant-loop-b
invariant-loop-b l = laws.Holds l.s (hold_from (Some l.initial.h) l.s) l.b-index l.h
