use Prim.Native.Nat.{◌-◌}
use lib.ListN.{length}
use native.Mathlib.Omega.{arith}
use borrow.Author.Rules.{rules}
use Rattle.set_commas.proofs.Loops as loops
use Rattle.set_commas.proofs.Steps.{turn_at, stop_at}
use Rattle.set_commas.proofs.piece_count.Given as goal

abbrev pub invariant-bytes : goal.invariant-bytes
invariant-bytes l = loops.Counts l.quoted l.s l.n l.i

abbrev pub decreases-bytes : goal.decreases-bytes
decreases-bytes l = length l.s - l.i
