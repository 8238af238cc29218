use native.Mathlib.Omega.{arith}
use Rattle.text_utf8.proofs.Pieces as laws
use Prim.Native.Nat.{◌-◌}
use lib.ListN.{length}
use Rattle.text_utf8.specs.Inner.{Ascii}
use Rattle.text_utf8.proofs.past_blocks.Given as goal

abbrev pub invariant-loop-k : goal.invariant-loop-k
invariant-loop-k l = Ascii l.s l.i l.k

abbrev pub decreases-loop-k : goal.decreases-loop-k
decreases-loop-k l = length l.s - l.k
