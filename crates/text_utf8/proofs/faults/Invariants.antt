use Prim.Native.Nat.{◌≤◌}
use Rattle.text_utf8.specs.Inner.{Judged}
use Rattle.text_utf8.proofs.faults.Given as goal

abbrev pub invariant-loop-k : goal.invariant-loop-k
invariant-loop-k l = (l.i ≤ l.k) × Judged l.s l.i l.k l.bad
