use native.Mathlib.Omega.{arith}
use Rattle.text_utf8.proofs.Laws as laws
use Prim.Native.Nat.{◌-◌}
use lib.ListN.{length}
use Rattle.text_utf8.specs.Inner.{Same}
use Rattle.text_utf8.proofs.by_chars.Given as goal

abbrev pub invariant-chars : goal.invariant-chars
invariant-chars l = Same l.s 0 l.k

abbrev pub decreases-chars : goal.decreases-chars
decreases-chars l = length l.s - l.k
