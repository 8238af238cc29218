use Rattle.sheet_valves.proofs.Pairs as laws
use Rattle.sheet_valves.proofs.first_pair.Given as goal

abbrev pub invariant-loop-v : goal.invariant-loop-v
invariant-loop-v l = laws.Seeks l.table l.v
