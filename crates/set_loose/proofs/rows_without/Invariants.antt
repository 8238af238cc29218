use borrow.Author.Rules.{rules}
use native.Mathlib.Omega.{arith}
use Prim.Native.Nat.{◌-◌}
use Rattle.set_loose.proofs.Walk as laws
use Rattle.set_loose.proofs.rows_without.Given as goal

abbrev pub invariant-loop-i : goal.invariant-loop-i
invariant-loop-i l = laws.Moves l.keys l.n l.k l.out l.i
