-- Sums, the greatest and what is kept, of two lists.
-- Assumes nothing.
use mathlib.Core.Path.{◌≡◌, refl, sym, ◌∙◌, ap}
use mathlib.Core.Bool.{Bool, true, false, cond}
use mathlib.Core.List.{List, [], ◌∷◌, ◌++◌}
use Prim.Native.Nat.{ℕ, ◌+◌}
use native.Mathlib.Omega.{arith}
use lib.ListN.{length, length-append}
use Rattle.sheet_totals.specs.Totals.{larger}
use Rattle.sheet_totals.proofs.Adding.{larger_left}
use Rattle.sheet_totals.proofs.Sums.{larger_assoc, larger_comm}
use Rattle.sheet_tally.specs.Lists.{total, greatest_of, keep}

pub total-append : {A : Type 0} (f : A → ℕ) (xs ys : List A) → total f (xs ++ ys) ≡ total f xs + total f ys
unfolding total
total-append f [] ys = omega arith
total-append f (x ∷ xs) ys = omega (arith, total-append f xs ys)

larger_zero : (y : ℕ) → larger 0 y ≡ y
larger_zero y = larger_comm 0 y ∙ larger_left y 0 (omega arith)

pub greatest_append : {A : Type 0} (f : A → ℕ) (xs ys : List A) → greatest_of f (xs ++ ys) ≡ larger (greatest_of f xs) (greatest_of f ys)
unfolding greatest_of
greatest_append f [] ys = sym (larger_zero (greatest_of f ys))
greatest_append f (x ∷ xs) ys = ap (larger (f x)) (greatest_append f xs ys) ∙ sym (larger_assoc (f x) (greatest_of f xs) (greatest_of f ys))

keep_append : {A : Type 0} (p : A → Bool) (xs ys : List A) → keep p (xs ++ ys) ≡ keep p xs ++ keep p ys
unfolding keep
keep_append p [] ys = refl
keep_append p (x ∷ xs) ys = go (p x) (keep_append p xs ys)
  where
    go : (b : Bool) → keep p (xs ++ ys) ≡ keep p xs ++ keep p ys → cond b (x ∷ keep p (xs ++ ys)) (keep p (xs ++ ys)) ≡ cond b (x ∷ keep p xs) (keep p xs) ++ keep p ys
    go true e = ap (λ l. x ∷ l) e
    go false e = e

pub kept_append : {A : Type 0} (p : A → Bool) (xs ys : List A) → length (keep p (xs ++ ys)) ≡ length (keep p xs) + length (keep p ys)
kept_append p xs ys = ap length (keep_append p xs ys) ∙ length-append (keep p xs) (keep p ys)
