-- The loops of `blank_end` and `plain_end`, which go on from a place up to the text's end, or not at all where the place is behind it.
-- Assumes nothing.
use mathlib.Core.Path.{◌≡◌, refl}
use mathlib.Core.Bool.{Bool, true, false}
use mathlib.Core.List.{List}
use Prim.Native.Nat.{ℕ, ◌+◌, ◌≤◌, max}
use native.Mathlib.Omega.{arith}
use borrow.Author.Tests.{ltb-true, ltb-false}
use lib.Dec.{ltb}
use lib.ListN.{length, drop}
use Rattle.base_lists.specs.Lists.{run}
use Rattle.base_lists.proofs.Runs.{RunsFrom, start, end}

pub end_max : {f : ℕ → Bool} {s : List ℕ} {i k : ℕ} → RunsFrom f s (i + run f (drop i s)) k → length s ≤ k → (i ≤ length s → k ≤ length s) → max i (length s) ≡ i + run f (drop i s)
end_max {f} {s} {i} {k} inv h upto = go (ltb (length s) i) refl
  where
    go : (x : Bool) → ltb (length s) i ≡ x → max i (length s) ≡ i + run f (drop i s)
    go true e = let l = ltb-true (length s) i e in omega (arith, end (start f s i) (omega arith))
    go false e = let l = ltb-false (length s) i e in omega (arith, end inv h, upto l)
