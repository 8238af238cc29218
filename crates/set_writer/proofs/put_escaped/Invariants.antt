use Prim.Native.Nat.{◌-◌}
use lib.ListN.{length}
use native.Mathlib.Omega.{arith}
use borrow.Author.Rules.{rules}
use Rattle.set_marks.proofs.Values as values
use Rattle.set_writer.proofs.Writes as writes
use Rattle.set_writer.proofs.put_escaped.Given as goal

abbrev pub invariant-loop-b : goal.invariant-loop-b
invariant-loop-b l = writes.Writes l.initial.out l.at l.quoted l.s l.out l.k l.i

abbrev pub decreases-loop-b : goal.decreases-loop-b
decreases-loop-b l = length l.s - l.i
