use Rattle.run_refused.specs.Inner.{spots_from}
use Rattle.run_refused.proofs.Leaves as laws
use Rattle.run_refused.proofs.pass_over.Given as goal

abbrev pub invariant-loop-b : goal.invariant-loop-b
invariant-loop-b l = laws.Passes l.s (spots_from l.initial.spot l.s) l.b-index l.spot
