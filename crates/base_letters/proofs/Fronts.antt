-- Runs of name bytes from a place on, whose first byte is asked too.
-- Assumes nothing.
use mathlib.Core.Path.{◌≡◌, refl, sym, ◌∙◌}
use mathlib.Core.Bool.{Bool, true, false, cond}
use mathlib.Core.List.{List, [], ◌∷◌}
use Prim.Native.Nat.{ℕ, suc, ◌+◌, ◌<◌, ◌≤◌}
use native.Mathlib.Nat.{add-zero, zero-add}
use native.Mathlib.Omega.{arith}
use native.Mathlib.Numerals.{add-one}
use lib.Dec.{eqb, eqb-zero-suc, eqb-suc-suc}
use lib.ListN.{length, get_or, drop, drop_of_length-le, length-drop}
use lib.Seq.{drop-cons}
use Rattle.base_lists.specs.Lists.{headed, run, first_is}
use Rattle.base_lists.proofs.Scan.{all-run, run_le}
use Rattle.base_lists.proofs.More.{contra}
use Rattle.base_letters.specs.Classes.{front_run}

-- tests that are the same answer alike, and stop at the same byte
pub asked : {f g : ℕ → Bool} → f ≡ g → (b : ℕ) {r : Bool} → r ≡ f b → g b ≡ r
asked e b q = sym (q ∙ (λ k. e k b))

pub same-run : {f g : ℕ → Bool} → f ≡ g → (i : ℕ) (s : List ℕ) → i + run f s ≡ i + run g s
same-run e i s = λ k. i + run (e k) s

pub counted : {f g : ℕ → Bool} → f ≡ g → (s : List ℕ) {r : ℕ} → r ≡ 0 + run f s → r ≡ run g s
counted e s q = q ∙ (same-run e 0 s ∙ zero-add _)

pub same_front : {f f' g g' : ℕ → Bool} → f ≡ f' → g ≡ g' → (i : ℕ) (s : List ℕ) → i + front_run f g s ≡ i + front_run f' g' s
same_front p q i s = λ k. i + front_run (p k) (q k) s

-- what is found stands in the list, whatever the tests are
front_le : (f g : ℕ → Bool) (s : List ℕ) → front_run f g s ≤ length s
front_le f g [] = omega arith
front_le f g (a ∷ s) = go (f a)
  where
    go : (x : Bool) → cond x (suc (run g s)) 0 ≤ length (a ∷ s)
    go true = omega (arith, run_le g s)
    go false = omega arith

pub inside : (f g : ℕ → Bool) (s : List ℕ) {a e : ℕ} → e ≡ a + front_run f g (drop a s) → a ≤ length s → (a ≤ e) × (e ≤ length s)
inside f g s {a} is h = omega (arith, front_le f g (drop a s), length-drop a s)

-- ---- how the code finds it
module _ (f g : ℕ → Bool) (s : List ℕ) (i : ℕ) where
  pub none : length s ≤ i → i ≡ i + front_run f g (drop i s)
  none h = rw (drop_of_length-le s h) (sym (add-zero i))

  module _ (h : i < length s) where
    pub refused : f (get_or s i 0) ≡ false → i ≡ i + front_run f g (drop i s)
    refused e = rw (drop-cons s i 0 h, e) (sym (add-zero i))

    pub taken : f (get_or s i 0) ≡ true → {r : ℕ} → r ≡ i + 1 + run g (drop (i + 1) s) → r ≡ i + front_run f g (drop i s)
    taken e q = rw (drop-cons s i 0 h, e, ← add-one i) (omega arith)

-- ---- for callers: a list that isn't empty is all name where the run is as long as the list
pub whole : (f g : ℕ → Bool) (s : List ℕ) {r : ℕ} → r ≡ 0 + front_run f g s → (length s ≡ 0 → ⊥) → eqb r (length s) ≡ headed f g s
unfolding headed
whole f g [] q h = absurd (h refl)
whole f g (a ∷ s) {r} q h = go (f a) refl
  where
    go : (x : Bool) → f a ≡ x → eqb r (length (a ∷ s)) ≡ headed f g (a ∷ s)
    go true e = rw (q, zero-add, e, eqb-suc-suc (run g s) (length s)) (all-run g s)
    go false e = rw (q, zero-add, e) (eqb-zero-suc (length s))

-- where a byte that passes the first test passes the second, the run of the second, if the first byte is right
pub as_run : (f g : ℕ → Bool) → ((b : ℕ) → f b ≡ true → g b ≡ true) → (s : List ℕ) → front_run f g s ≡ cond (first_is f s) (run g s) 0
unfolding run
as_run f g of [] = refl
as_run f g of (a ∷ s) = go (f a) refl
  where
    go : (x : Bool) → f a ≡ x → front_run f g (a ∷ s) ≡ cond (f a) (run g (a ∷ s)) 0
    go true e = rw (e, of a e)
    go false e = rw e

some : (f g : ℕ → Bool) (s : List ℕ) → first_is f s ≡ true → 1 ≤ front_run f g s
some f g [] e = contra false e refl
some f g (a ∷ s) e = rw e (omega arith)

module _ (f g : ℕ → Bool) (of : (b : ℕ) → f b ≡ true → g b ≡ true) (s : List ℕ) {a e : ℕ} (is : e ≡ a + front_run f g (drop a s)) where
  -- nothing begins at a, or what begins there is the run of the second test
  pub nothing : e ≡ a → first_is f (drop a s) ≡ false
  nothing h = go (first_is f (drop a s)) refl
    where
      go : (x : Bool) → first_is f (drop a s) ≡ x → x ≡ false
      go true p = absurd (omega (arith, some f g (drop a s) p, is, h))
      go false p = refl

  pub begun : (e ≡ a → ⊥) → (first_is f (drop a s) ≡ true) × (e ≡ a + run g (drop a s))
  begun n = go (first_is f (drop a s)) refl (is ∙ (rw (as_run f g of (drop a s))))
    where
      go : (x : Bool) → first_is f (drop a s) ≡ x → e ≡ a + cond (first_is f (drop a s)) (run g (drop a s)) 0 → (first_is f (drop a s) ≡ true) × (e ≡ a + run g (drop a s))
      go true p q = (p, rw p at q)
      go false p q = absurd (n ((rw p at q) ∙ add-zero a))
