use Prim.Native.Nat.{◌-◌}
use lib.ListN.{length}
use native.Mathlib.Omega.{arith}
use borrow.Author.Rules.{rules}
use Rattle.set_marks.proofs.Values as values
use Rattle.set_marks.proofs.same_pieces.Given as goal

abbrev pub invariant-pieces : goal.invariant-pieces
invariant-pieces l = values.Equals l.p l.x l.q l.y l.i l.j

abbrev pub decreases-pieces : goal.decreases-pieces
decreases-pieces l = length l.x - l.i
