use Rattle.set_loose.proofs.Walk as laws
use Rattle.set_loose.proofs.slots_without.Given as goal

abbrev pub invariant-loop-p : goal.invariant-loop-p
invariant-loop-p l = laws.Keeps l.k l.fn.order l.n l.out l.p-index l.j
