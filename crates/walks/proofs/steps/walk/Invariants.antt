use Prim.Native.Nat.{◌-◌, ◌≤◌}
use lib.ListN.{length}
use Rattle.walks.proofs.steps.walk.Given as goal

abbrev pub invariant-steps : goal.invariant-steps
invariant-steps g l = l.i ≤ length l.text

abbrev pub decreases-steps : goal.decreases-steps
decreases-steps g l = length l.text - l.i
