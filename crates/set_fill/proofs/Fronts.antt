-- How many bytes at the front pass a test: an iterator's count of them is that of the definitions; and from where on they are counted.
-- Assumes nothing.
use mathlib.Core.Path.{◌≡◌, refl, ◌∙◌, ap}
use mathlib.Core.Bool.{Bool, true, false, cond}
use mathlib.Core.List.{List, [], ◌∷◌}
use Prim.Native.Nat.{ℕ, suc, ◌+◌, ◌-◌, min}
use native.Mathlib.Omega.{arith}
use lib.ListN.{length, take, drop, length-drop}
use lib.Seq.{take_all}
use Rattle.std.specs.List.{prefix_len}
use Rattle.std.proofs.lemmas.List.{drop_min}
use Rattle.base_lists.specs.Lists.{run}

pub prefix_run : (f : ℕ → Bool) (s : List ℕ) → prefix_len f s ≡ run f s
unfolding run
prefix_run f [] = refl
prefix_run f (b ∷ s) = go (f b) (prefix_run f s)
  where
    go : (x : Bool) → prefix_len f s ≡ run f s → cond x (1 + prefix_len f s) 0 ≡ cond x (suc (run f s)) 0
    go true e = omega arith
    go false e = refl

-- The slice from a place on, or from the end where the place is beyond it.
pub cut_at : (at m : ℕ) (s : List ℕ) → m ≡ min at (length s) → take (length s - m) (drop m s) ≡ drop at s
cut_at at m s e =
    take_all (length s - m) (drop m s) (omega (arith, length-drop m s))
    ∙ ap (λ k. drop k s) e ∙ drop_min at s
