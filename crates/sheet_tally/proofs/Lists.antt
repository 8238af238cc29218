-- Sums, the greatest and what is kept, of two lists and of one more at the end.
-- Assumes nothing.
use mathlib.Core.Path.{◌≡◌, refl, sym, ◌∙◌, ap}
use mathlib.Core.Bool.{Bool, true, false, cond}
use mathlib.Core.List.{List, [], ◌∷◌, ◌++◌}
use Prim.Native.Nat.{ℕ, ◌+◌}
use native.Mathlib.Nat.{add-zero}
use native.Mathlib.Omega.{arith}
use lib.ListN.{length, length-append}
use Rattle.sheet_blocks.specs.Sheets.{Try, is_block, only_blocks}
use Rattle.sheet_totals.specs.Totals.{larger}
use Rattle.sheet_totals.proofs.Adding.{larger_left}
use Rattle.sheet_totals.proofs.Sums.{larger_assoc, larger_comm}
use Rattle.sheet_tally.specs.Lists.{total, greatest_of, keep}

pub total-append : {A : Type 0} (f : A → ℕ) (xs ys : List A) → total f (xs ++ ys) ≡ total f xs + total f ys
unfolding total
total-append f [] ys = omega arith
total-append f (x ∷ xs) ys = omega (arith, total-append f xs ys)

pub total_more : {A : Type 0} (f : A → ℕ) (xs : List A) (x : A) → total f (xs ++ (x ∷ [])) ≡ total f xs + f x
unfolding total
total_more f xs x = total-append f xs (x ∷ []) ∙ (rw (add-zero (f x)))

larger_zero : (y : ℕ) → larger 0 y ≡ y
larger_zero y = larger_comm 0 y ∙ larger_left y 0 (omega arith)

pub greatest_append : {A : Type 0} (f : A → ℕ) (xs ys : List A) → greatest_of f (xs ++ ys) ≡ larger (greatest_of f xs) (greatest_of f ys)
unfolding greatest_of
greatest_append f [] ys = sym (larger_zero (greatest_of f ys))
greatest_append f (x ∷ xs) ys = ap (larger (f x)) (greatest_append f xs ys) ∙ sym (larger_assoc (f x) (greatest_of f xs) (greatest_of f ys))

pub greatest_one : {A : Type 0} (f : A → ℕ) (x : A) → greatest_of f (x ∷ []) ≡ f x
unfolding greatest_of
greatest_one f x = larger_left (f x) 0 (omega arith)

pub greatest_more : {A : Type 0} (f : A → ℕ) (xs : List A) (x : A) → greatest_of f (xs ++ (x ∷ [])) ≡ larger (greatest_of f xs) (f x)
greatest_more f xs x = greatest_append f xs (x ∷ []) ∙ ap (larger (greatest_of f xs)) (greatest_one f x)

pub keep_append : {A : Type 0} (p : A → Bool) (xs ys : List A) → keep p (xs ++ ys) ≡ keep p xs ++ keep p ys
unfolding keep
keep_append p [] ys = refl
keep_append p (x ∷ xs) ys = go (p x) (keep_append p xs ys)
  where
    go : (b : Bool) → keep p (xs ++ ys) ≡ keep p xs ++ keep p ys → cond b (x ∷ keep p (xs ++ ys)) (keep p (xs ++ ys)) ≡ cond b (x ∷ keep p xs) (keep p xs) ++ keep p ys
    go true e = ap (λ l. x ∷ l) e
    go false e = e

pub kept_append : {A : Type 0} (p : A → Bool) (xs ys : List A) → length (keep p (xs ++ ys)) ≡ length (keep p xs) + length (keep p ys)
kept_append p xs ys = ap length (keep_append p xs ys) ∙ length-append (keep p xs) (keep p ys)

pub kept_more : {A : Type 0} (p : A → Bool) (xs : List A) (x : A) → length (keep p (xs ++ (x ∷ []))) ≡ length (keep p xs) + cond (p x) 1 0
unfolding keep
kept_more p xs x = kept_append p xs (x ∷ []) ∙ ap (λ k. length (keep p xs) + k) (go (p x))
  where
    go : (b : Bool) → length (cond b (x ∷ []) []) ≡ cond b 1 0
    go true = refl
    go false = refl

pub only_append : (xs ys : List Try) → only_blocks (xs ++ ys) ≡ only_blocks xs ++ only_blocks ys
unfolding only_blocks
only_append [] ys = refl
only_append (x ∷ xs) ys = go (is_block x.found) (only_append xs ys)
  where
    go : (b : Bool) → only_blocks (xs ++ ys) ≡ only_blocks xs ++ only_blocks ys → cond b (x ∷ only_blocks (xs ++ ys)) (only_blocks (xs ++ ys)) ≡ cond b (x ∷ only_blocks xs) (only_blocks xs) ++ only_blocks ys
    go true e = ap (λ l. x ∷ l) e
    go false e = e
