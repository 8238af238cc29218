-- How a table changes as its rows do: one law for each store that code makes.
-- Assumes nothing.
use mathlib.Core.Path.{◌≡◌}
use mathlib.Core.List.{List, [], ◌∷◌, ◌++◌, append_assoc}
use Prim.Native.Nat.{ℕ, suc, ◌-◌, ◌<◌, ◌≤◌}
use native.Mathlib.Omega.{arith}
use lib.ListN.{length, get_or, set, replicate, length-set, length-append, length-replicate, get_or-append}
use lib.Seq.{set-append_seam, set-append_left}
use Rattle.set_table.specs.Rows.{padded}

module _ {A : Type 0} (n : ℕ) (z : A) where
  pub padded-length : (xs : List A) → length xs ≤ n → length (padded n z xs) ≡ n
  unfolding padded
  padded-length xs h = rw (length-append, length-replicate) (omega arith)

  -- a row more
  pub padded_more : (xs : List A) (v : A) → length xs < n → set (padded n z xs) (length xs) v ≡ padded n z (xs ++ (v ∷ []))
  unfolding padded
  padded_more xs v h =
      let k : n - length xs ≡ suc (n - length (xs ++ (v ∷ []))) = omega (arith, length-append xs (v ∷ [])) in
      rw (k, append_assoc) (set-append_seam xs z (replicate (n - length (xs ++ (v ∷ []))) z) v)

  -- a row changed where it stands
  pub padded-set : (xs : List A) (k : ℕ) (v : A) → k < length xs → set (padded n z xs) k v ≡ padded n z (set xs k v)
  unfolding padded
  padded-set xs k v h = rw length-set (set-append_left xs (replicate (n - length xs) z) k v h)

  pub padded_get : (xs : List A) (k : ℕ) (d : A) → k < length xs → get_or (padded n z xs) k d ≡ get_or xs k d
  unfolding padded
  padded_get xs k d h = get_or-append xs (replicate (n - length xs) z) d k h
