-- A list without one of it.
-- Assumes nothing.
use mathlib.Core.Path.{◌≡◌, refl, ap}
use mathlib.Core.Bool.{Bool, true, false, cond}
use mathlib.Core.List.{List, [], ◌∷◌}
use Prim.Native.Nat.{ℕ, zero, suc, ◌<◌, ◌≤◌}
use native.Mathlib.Omega.{arith}
use borrow.Author.Tests.{ltb-true, ltb-false}
use lib.Dec.{ltb}
use lib.ListN.{length, get_or}
use Rattle.set_loose.specs.Without.{without_at}
use Rattle.set_loose.specs.Inner.{raised}

pub gone-length : {A : Type 0} (k : ℕ) (xs : List A) → k < length xs → suc (length (without_at k xs)) ≡ length xs
unfolding without_at
gone-length zero [] h = absurd (omega arith)
gone-length (suc k) [] h = absurd (omega arith)
gone-length zero (x ∷ xs) h = refl
gone-length (suc k) (x ∷ xs) h = ap suc (gone-length k xs (omega arith))

module _ {A : Type 0} (d : A) where
  pub low : (k j : ℕ) (xs : List A) → j < k → get_or (without_at k xs) j d ≡ get_or xs j d
  unfolding without_at
  low zero j xs h = absurd (omega arith)
  low (suc k) j [] h = refl
  low (suc k) zero (x ∷ xs) h = refl
  low (suc k) (suc j) (x ∷ xs) h = low k j xs (omega arith)

  pub high : (k j : ℕ) (xs : List A) → k ≤ j → get_or (without_at k xs) j d ≡ get_or xs (suc j) d
  unfolding without_at
  high zero j [] h = refl
  high zero j (x ∷ xs) h = refl
  high (suc k) j [] h = refl
  high (suc k) zero (x ∷ xs) h = absurd (omega arith)
  high (suc k) (suc j) (x ∷ xs) h = high k j xs (omega arith)

  -- the j-th of it stood at `raised k j`
  pub gone_get : (k j : ℕ) (xs : List A) → get_or (without_at k xs) j d ≡ get_or xs (raised k j) d
  gone_get k j xs = go (ltb j k) refl
    where
      go : (b : Bool) → ltb j k ≡ b → get_or (without_at k xs) j d ≡ get_or xs (cond b j (suc j)) d
      go true e = low k j xs (ltb-true j k e)
      go false e = high k j xs (ltb-false j k e)
