use Prim.Native.Nat.{◌-◌}
use lib.ListN.{length}
use native.Mathlib.Omega.{arith}
use borrow.Author.Rules.{rules}
use Rattle.set_marks.proofs.Values as values
use Rattle.set_marks.proofs.escaped_len.Given as goal

abbrev pub invariant-pieces : goal.invariant-pieces
invariant-pieces l = values.Counts l.quoted l.s l.n l.i

abbrev pub decreases-pieces : goal.decreases-pieces
decreases-pieces l = length l.s - l.i
