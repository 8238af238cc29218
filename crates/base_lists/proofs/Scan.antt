-- How `all` and `run` go on from the byte at i: what a loop over a slice asks, one law for each way on.
-- Assumes nothing.
use mathlib.Core.Path.{◌≡◌, refl}
use mathlib.Core.Bool.{Bool, true, false, cond, ◌&&◌}
use mathlib.Core.List.{List, [], ◌∷◌, ◌++◌}
use Prim.Native.Nat.{ℕ, ◌+◌, ◌<◌, ◌≤◌, zero-le, suc, zero}
use native.Mathlib.Omega.{arith}
use native.Mathlib.Numerals.{add-one}
use lib.Dec.{eqb, eqb-zero-suc, eqb-suc-suc}
use lib.ListN.{length, get_or, drop, drop_of_length-le, take}
use lib.Seq.{drop-cons}
use Rattle.base_lists.specs.Lists.{all, run, first_is}

pub both : (a b : Bool) → (a && b) ≡ true → (a ≡ true) × (b ≡ true)
both true b e = (refl, e)
both false b e = let z : ◌≡◌ {A = ℕ} 0 1 = cc in absurd (omega arith)

-- ---- a loop over bytes that all pass: the answer for the rest is the answer for the whole
pub record Passes (f : ℕ → Bool) (s : List ℕ) (r : Bool) (i : ℕ) : Type 0 where
  pub within : i ≤ length s
  pub rest : all f (drop i s) ≡ r

pub passes-start : (f : ℕ → Bool) (s : List ℕ) → Passes f s (all f s) 0
passes-start f s = record { within = zero-le; rest = refl }

module _ {f : ℕ → Bool} {s : List ℕ} {r : Bool} {i : ℕ} (inv : Passes f s r i) where
  pub passes_stop : i < length s → f (get_or s i 0) ≡ false → false ≡ r
  unfolding all
  passes_stop h e = rw (drop-cons s i 0 h, e) at inv.rest

  pub passes_go : i < length s → f (get_or s i 0) ≡ true → Passes f s r (i + 1)
  unfolding all
  passes_go h e = record { within = omega arith; rest = rw add-one (rw (drop-cons s i 0 h, e) at inv.rest) }

  pub passes_end : length s ≤ i → true ≡ r
  unfolding all
  passes_end h = rw (drop_of_length-le s h) at inv.rest

pub all_append : {A : Type 0} (f : A → Bool) (s t : List A) → all f s ≡ true → all f t ≡ true → all f (s ++ t) ≡ true
unfolding all
all_append f [] t e q = q
all_append f (a ∷ s) t e q = let h = both (f a) (all f s) e in rw h.0 (all_append f s t h.1 q)

-- ---- a loop that counts the bytes at the front that pass: i were passed
pub run_le : (f : ℕ → Bool) (s : List ℕ) → run f s ≤ length s
unfolding run
run_le f [] = zero-le
run_le f (a ∷ s) = go (f a) refl (run_le f s)
  where
    go : (b : Bool) → f a ≡ b → run f s ≤ length s → run f (a ∷ s) ≤ length (a ∷ s)
    go true e h = rw e (omega arith)
    go false e h = rw e zero-le

-- ---- the byte at i, if there is one
module _ (f : ℕ → Bool) (s : List ℕ) (i : ℕ) where
  pub first_none : length s ≤ i → false ≡ first_is f (drop i s)
  first_none h = rw (drop_of_length-le s h)

  pub first_some : i < length s → f (get_or s i 0) ≡ first_is f (drop i s)
  first_some h = rw (drop-cons s i 0 h)

-- `all` with a byte more at the end
pub all_snoc : (f : ℕ → Bool) (s : List ℕ) (b : ℕ) (t : Bool) → f b ≡ t → all f (s ++ (b ∷ [])) ≡ cond t (all f s) false
unfolding all
all_snoc f [] b true e = rw e
all_snoc f [] b false e = rw e
all_snoc f (a ∷ s) b t e = rw (all_snoc f s b t e) (go (f a) t)
  where
    go : (x t : Bool) → (x && cond t (all f s) false) ≡ cond t (x && all f s) false
    go true t = refl
    go false true = refl
    go false false = refl

-- every byte passes where as many pass at the front as there are
pub all-run : (f : ℕ → Bool) (s : List ℕ) → eqb (run f s) (length s) ≡ all f s
unfolding all run
all-run f [] = refl
all-run f (a ∷ s) = go (f a) refl (all-run f s)
  where
    go : (x : Bool) → f a ≡ x → eqb (run f s) (length s) ≡ all f s → eqb (run f (a ∷ s)) (length (a ∷ s)) ≡ all f (a ∷ s)
    go true e ih = rw (e, eqb-suc-suc (run f s) (length s)) ih
    go false e ih = rw (e, eqb-zero-suc (length s))

pub run-all : (f : ℕ → Bool) (s : List ℕ) → all f (take (run f s) s) ≡ true
unfolding run all
run-all f [] = refl
run-all f (b ∷ s) = go (f b) refl (run-all f s)
  where
    go : (x : Bool) → f b ≡ x → all f (take (run f s) s) ≡ true → all f (take (cond x (suc (run f s)) 0) (b ∷ s)) ≡ true
    go true p h = rw (p, h)
    go false p h = refl

pub all_drop : (f : ℕ → Bool) (n : ℕ) (s : List ℕ) → all f s ≡ true → all f (drop n s) ≡ true
unfolding all
all_drop f zero s e = e
all_drop f (suc n) [] e = refl
all_drop f (suc n) (b ∷ s) e = all_drop f n s (both (f b) (all f s) e).1

pub all_take : (f : ℕ → Bool) (n : ℕ) (s : List ℕ) → all f s ≡ true → all f (take n s) ≡ true
unfolding all
all_take f zero s e = refl
all_take f (suc n) [] e = refl
all_take f (suc n) (b ∷ s) e = rw (both (f b) (all f s) e).0 (all_take f n s (both (f b) (all f s) e).1)

pub all_front : (f : ℕ → Bool) (k s : List ℕ) (i : ℕ) → all f k ≡ true → i < length k → f (get_or (k ++ s) i 0) ≡ true
unfolding all
all_front f [] s i e h = absurd (omega arith)
all_front f (a ∷ k) s zero e h = (both (f a) (all f k) e).0
all_front f (a ∷ k) s (suc i) e h = all_front f k s i (both (f a) (all f k) e).1 (omega arith)
