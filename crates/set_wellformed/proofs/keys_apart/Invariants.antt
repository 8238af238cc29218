use Rattle.set_table.specs.Types.{two}
use Rattle.set_wellformed.proofs.Decide as laws
use Rattle.set_wellformed.proofs.keys_apart.Given as goal

abbrev pub invariant-loop-k : goal.invariant-loop-k
invariant-loop-k l = laws.Apart (two l.first l.second) l.keys l.n l.k
