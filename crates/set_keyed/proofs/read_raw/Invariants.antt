use Prim.Native.Nat.{◌-◌}
use lib.ListN.{length}
use Rattle.set_keyed.proofs.Numbers as laws
use Rattle.set_keyed.proofs.read_raw.Given as goal

abbrev pub invariant-loop-b : goal.invariant-loop-b
invariant-loop-b l = laws.Reading l.most l.quoted l.s l.d l.i

abbrev pub decreases-loop-b : goal.decreases-loop-b
decreases-loop-b l = length l.s - l.i
