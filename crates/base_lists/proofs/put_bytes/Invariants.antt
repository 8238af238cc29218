use Rattle.base_lists.proofs.Sets as laws
use Rattle.base_lists.proofs.put_bytes.Given as goal

abbrev pub invariant-loop-i : goal.invariant-loop-i
invariant-loop-i l = laws.Puts l.initial.out l.at l.s l.out l.i
