-- A function with the same value at each of some numbers has it at any one of them. antt computes the values, so the check is `refl`:
-- one law for each way that a `match` on a byte can go.
-- Assumes nothing.
use mathlib.Core.Path.{◌≡◌, refl, sym, ◌∙◌, ap}
use mathlib.Core.Bool.{Bool, true, false, cond, ◌||◌}
use mathlib.Core.List.{List, [], ◌∷◌, map}
use Prim.Native.Nat.{ℕ, zero, suc, ◌+◌, ◌-◌, ◌<◌, ◌≤◌}
use native.Mathlib.Nat.{add-zero, zero-add, add-suc, suc-add, le_of_suc-le-suc, not-suc-le-zero}
use native.Mathlib.Omega.{arith}
use borrow.Author.Tests.{eqb-true}
use lib.Dec.{eqb}
use lib.ListN.{length, replicate, get_or}
use mathlib.Core.Logic.{◌⊎◌, inl, inr}
use types.Run.{OneOf}
use Rattle.base_lists.specs.Lists.{is_in}

-- f lo, f (lo + 1), .., n of them
abbrev pub values : {A : Type 0} → (ℕ → A) → ℕ → ℕ → List A
values f zero lo = []
values f (suc n) lo = f lo ∷ values f n (suc lo)

-- the list of a function's values has the function's value at each place
module _ {A : Type 0} (f : ℕ → A) (d : A) where
  values_from : (n lo k : ℕ) → k < n → get_or (values f n lo) k d ≡ f (lo + k)
  values_from zero lo k h = absurd (not-suc-le-zero h)
  values_from (suc n) lo zero h = ap f (sym (add-zero lo))
  values_from (suc n) lo (suc k) h = values_from n (suc lo) k (le_of_suc-le-suc h) ∙ ap f (suc-add lo k ∙ sym (add-suc lo k))

  pub values_at : (n k : ℕ) → k < n → get_or (values f n 0) k d ≡ f k
  values_at n k h = values_from n 0 k h ∙ ap f (zero-add k)

pub length_values : {A : Type 0} (f : ℕ → A) (n lo : ℕ) → length (values f n lo) ≡ n
length_values f zero lo = refl
length_values f (suc n) lo = ap (λ k. suc k) (length_values f n (suc lo))

-- two functions with the same list of values agree at each place
pub agree : {A : Type 0} (f g : ℕ → A) (n : ℕ) → values f n 0 ≡ values g n 0 → (k : ℕ) → k < n → f k ≡ g k
agree f g n e k h = sym (values_at f (f 0) n k h) ∙ (ap (λ l. get_or l k (f 0)) e ∙ values_at g (f 0) n k h)

-- b is one of n numbers in a row
pub steady : {A : Type 0} (f : ℕ → A) (v : A) (lo n b : ℕ) → values f n lo ≡ replicate n v → lo ≤ b → b < lo + n → v ≡ f b
steady f v lo zero b e h l = absurd (omega arith)
steady {A} f v lo (suc n) b e h l = go (b - lo) (omega arith) (steady f v (suc lo) n b)
  where
    go : (d : ℕ) → b ≡ lo + d → (values f n (suc lo) ≡ replicate n v → suc lo ≤ b → b < suc lo + n → v ≡ f b) → v ≡ f b
    go zero q more = let z : b ≡ lo = omega arith in rw z (cc)
    go (suc d) q more = more (cc) (omega arith) (omega arith)

-- b is one of a list of numbers
pub met : {A : Type 0} (f : ℕ → A) (v : A) (ks : List ℕ) (b : ℕ) → OneOf ks b → map f ks ≡ replicate (length ks) v → v ≡ f b
met f v [] b h e = absurd h
met f v (k ∷ []) b h e = rw h (cc)
met {A} f v (k ∷ (k' ∷ ks)) b h e = go h (met f v (k' ∷ ks) b)
  where
    go : (b ≡ k) ⊎ OneOf (k' ∷ ks) b → (OneOf (k' ∷ ks) b → map f (k' ∷ ks) ≡ replicate (length (k' ∷ ks)) v → v ≡ f b) → v ≡ f b
    go (inl q) more = rw q (cc)
    go (inr q) more = more q (cc)

apart : (ks : List ℕ) (b : ℕ) → (OneOf ks b → ⊥) → is_in ks b ≡ false
unfolding is_in
apart [] b h = refl
apart (k ∷ []) b h = go (eqb b k) refl
  where
    go : (t : Bool) → eqb b k ≡ t → (t || false) ≡ false
    go true e = absurd (h (eqb-true b k e))
    go false e = refl
apart (k ∷ (k' ∷ ks)) b h = go (eqb b k) refl (apart (k' ∷ ks) b (λ q. h (inr q)))
  where
    go : (t : Bool) → eqb b k ≡ t → is_in (k' ∷ ks) b ≡ false → (t || is_in (k' ∷ ks) b) ≡ false
    go true e more = absurd (h (inl (eqb-true b k e)))
    go false e more = more

-- b is one of n numbers in a row, and none of a list
pub missed : {A : Type 0} (f : ℕ → A) (v : A) (ks : List ℕ) (lo n b : ℕ) → (OneOf ks b → ⊥) → values (λ x. cond (is_in ks x) v (f x)) n lo ≡ replicate n v
    → lo ≤ b → b < lo + n → v ≡ f b
missed f v ks lo n b h e l u = rw (apart ks b h) at (steady (λ x. cond (is_in ks x) v (f x)) v lo n b e l u)
