use Rattle.set_table.specs.Types.{two}
use Rattle.set_once.proofs.Kept as laws
use Rattle.set_once.proofs.classes_once.Given as goal

abbrev pub invariant-loop-value : goal.invariant-loop-value
invariant-loop-value l = laws.Keeps (two l.first l.second) l.value-items l.classes l.n l.value-index
