use Rattle.run_scanners.proofs.Quick as laws
use Rattle.run_scanners.proofs.lacks_quotes.Given as goal

abbrev pub invariant-loop-b : goal.invariant-loop-b
invariant-loop-b l = laws.Meets l.s l.b-index l.met
