use Prim.Native.Nat.{◌-◌}
use lib.ListN.{length}
use Rattle.run_refused.specs.Inner.{walk_at, shown_walk}
use Rattle.run_refused.proofs.Walking as laws
use Rattle.run_refused.proofs.walk_run.Given as goal

abbrev pub invariant-loop-i : goal.invariant-loop-i
invariant-loop-i l = laws.Inner l.text (shown_walk (walk_at l.opener l.text l.start)) l.opener l.n l.l.to l.l.next l.shallow l.spot l.i

abbrev pub invariant-lines : goal.invariant-lines
invariant-lines l = laws.Outer l.text (shown_walk (walk_at l.opener l.text l.start)) l.opener l.n l.at l.brace l.shallow

abbrev pub decreases-lines : goal.decreases-lines
decreases-lines l = length l.text - l.at
