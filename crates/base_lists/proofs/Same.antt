-- `same` says that two lists are equal; and how it goes on from the byte at i.
-- Assumes nothing.
use mathlib.Core.Path.{◌≡◌, refl, ap}
use mathlib.Core.Bool.{Bool, true, false, ◌&&◌}
use mathlib.Core.List.{List, [], ◌∷◌}
use Prim.Native.Nat.{ℕ, suc, ◌≤◌, zero-le}
use native.Mathlib.Omega.{arith}
use borrow.Author.Tests.{eqb-true, eq-eqb, ne_eqb, leb-true, leb-false}
use lib.Dec.{eqb, leb}
use lib.ListN.{length, get_or, drop, drop_of_length-le}
use lib.Seq.{drop-cons}
use lib.Pointwise.{pointwise}
use Rattle.base_lists.specs.Lists.{same}
use Rattle.base_lists.proofs.Scan.{both}

pub same_refl : (s : List ℕ) → same s s ≡ true
unfolding same
same_refl [] = refl
same_refl (a ∷ s) = rw (eq-eqb a a refl) (same_refl s)

pub same_true : (s t : List ℕ) → same s t ≡ true → s ≡ t
unfolding same
same_true [] [] e = refl
same_true [] (b ∷ t) e = let z : ◌≡◌ {A = ℕ} 0 1 = cc in absurd (omega arith)
same_true (a ∷ s) [] e = let z : ◌≡◌ {A = ℕ} 0 1 = cc in absurd (omega arith)
same_true (a ∷ s) (b ∷ t) e =
    let h = both (eqb a b) (same s t) e in
    let p = eqb-true a b h.0 in
    let q = same_true s t h.1 in
    cc

-- what `==` answers at two slices
pub same_pointwise : (s t : List ℕ) → pointwise eqb s t ≡ same s t
unfolding same
same_pointwise [] [] = refl
same_pointwise [] (b ∷ t) = refl
same_pointwise (a ∷ s) [] = refl
same_pointwise (a ∷ s) (b ∷ t) = rw (same_pointwise s t)

pub same_of : {s t : List ℕ} → s ≡ t → same s t ≡ true
same_of {s} {t} e = rw e (same_refl t)

pub same_length : (s t : List ℕ) → (length s ≡ length t → ⊥) → false ≡ same s t
unfolding same
same_length [] [] h = absurd (h refl)
same_length [] (b ∷ t) h = refl
same_length (a ∷ s) [] h = refl
same_length (a ∷ s) (b ∷ t) h = go (eqb a b) (same_length s t (λ e. h (ap suc e)))
  where
    go : (p : Bool) → false ≡ same s t → false ≡ (p && same s t)
    go true e = e
    go false e = refl

-- lists that differ at one place are not the same
pub same_apart : (s t : List ℕ) (i : ℕ) → (get_or s i 0 ≡ get_or t i 0 → ⊥) → false ≡ same s t
same_apart s t i h = go (same s t) refl
  where
    go : (p : Bool) → same s t ≡ p → false ≡ p
    go true e = absurd (h (rw (same_true s t e)))
    go false e = refl

-- ---- a loop over two lists of one length: the answer for the rest is the answer for the whole
pub record Agrees (s t : List ℕ) (i : ℕ) : Type 0 where
  pub long : length s ≡ length t
  pub within : i ≤ length s
  pub rest : same (drop i s) (drop i t) ≡ same s t

pub agrees_start : {s t : List ℕ} → length s ≡ length t → Agrees s t 0
agrees_start e = record { long = e; within = zero-le; rest = refl }

module _ {s t : List ℕ} {i : ℕ} (inv : Agrees s t i) where
  pub agrees_end : length s ≤ i → true ≡ same s t
  unfolding same
  agrees_end h = rw (drop_of_length-le s h, drop_of_length-le t {i = i} (omega (arith, inv.long))) at inv.rest

pub same_nil : (k : ℕ) (t : List ℕ) → k ≤ length t → eqb k (length t) ≡ same [] (drop k t)
unfolding same
same_nil k t h = go (leb (length t) k) refl
  where
    go : (x : Bool) → leb (length t) k ≡ x → eqb k (length t) ≡ same [] (drop k t)
    go true e = rw (drop_of_length-le t (leb-true (length t) k e)) (eq-eqb k (length t) (omega (arith, leb-true)))
    go false e = rw (drop-cons t k 0 (leb-false (length t) k e)) (ne_eqb k (length t) (λ q. omega (arith, leb-false)))
