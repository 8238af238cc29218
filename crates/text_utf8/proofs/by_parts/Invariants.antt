use mathlib.Core.Path.{ap}
use mathlib.Core.Bool.{not}
use native.Mathlib.Omega.{arith}
use Rattle.text_utf8.proofs.Pieces as laws
use mathlib.Core.Path.{sym}
use Prim.Native.Nat.{◌-◌, ◌≤◌}
use lib.ListN.{length}
use Rattle.text_utf8.specs.Inner.{Fits}
use Rattle.text_utf8.proofs.by_parts.Given as goal

abbrev pub invariant-parts : goal.invariant-parts
invariant-parts l = (3 ≤ l.k) × Fits l.s l.k

abbrev pub decreases-parts : goal.decreases-parts
decreases-parts l = length l.s - l.k
