-- Bytes written into a list one behind the other, and the loop that writes them.
-- Assumes nothing.
use mathlib.Core.Path.{◌≡◌, refl, ◌∙◌}
use mathlib.Core.Bool.{Bool, true, false}
use mathlib.Core.List.{List, [], ◌∷◌, ◌++◌}
use Prim.Native.Nat.{ℕ, suc, ◌+◌, ◌<◌, ◌≤◌, ◌-◌, min}
use native.Mathlib.Nat.{add-zero, add-suc, suc-add}
use native.Mathlib.Numerals.{add-one}
use native.Mathlib.Omega.{arith}
use lib.ListN.{length, get_or, drop, set, length-set, drop_of_length-le, length-append, length-drop, take}
use lib.Dec.{ltb}
use borrow.Author.Tests.{ltb-true, ltb-false}
use lib.Seq.{sets, set_out, drop-cons, take-set-le, drop-set-lt}
use Rattle.base_lists.specs.Lists.{over}

pub sets-append : (l : List ℕ) (i : ℕ) (xs ys : List ℕ) → sets l i (xs ++ ys) ≡ sets (sets l i xs) (i + length xs) ys
sets-append l i [] ys = rw add-zero
sets-append l i (x ∷ xs) ys = rw (sets-append (set l i x) (suc i) xs ys, add-suc, suc-add)

-- what stands behind the end is left out
pub sets_out : (l : List ℕ) (i : ℕ) (xs : List ℕ) → length l ≤ i → sets l i xs ≡ l
sets_out l i [] h = refl
sets_out l i (x ∷ xs) h = rw (set_out l i x h) (sets_out l (suc i) xs (omega arith))

-- the loop stands before byte i of s, which goes as far behind the place
pub record Puts (buf₀ : List ℕ) (at : ℕ) (s buf : List ℕ) (i : ℕ) : Type 0 where
  pub long : length buf ≡ length buf₀
  pub rest : sets buf (at + i) (drop i s) ≡ sets buf₀ at s

pub puts-start : (buf : List ℕ) (at : ℕ) (s : List ℕ) → Puts buf at s buf 0
puts-start buf at s = record { long = refl; rest = rw add-zero }

module _ {buf₀ : List ℕ} {at : ℕ} {s buf : List ℕ} {i : ℕ} (inv : Puts buf₀ at s buf i) where
  pub puts_go : i < length s → Puts buf₀ at s (set buf (at + i) (get_or s i 0)) (i + 1)
  puts_go h = record { long = length-set buf (at + i) (get_or s i 0) ∙ inv.long; rest = rw (add-one i, add-suc) (rw (drop-cons s i 0 h) at inv.rest) }

  -- it ends behind the last byte, or where the memory ends
  pub puts_end : at < length buf₀ → i ≡ min (length s) (length buf₀ - at) → buf ≡ sets buf₀ at s
  puts_end r e = left (ltb i (length s)) refl
    where
      left : (t : Bool) → ltb i (length s) ≡ t → buf ≡ sets buf₀ at s
      left true g = rw (sets_out buf (at + i) (drop i s) (omega (arith, r, e, inv.long, ltb-true i (length s) g))) at inv.rest
      left false g = rw (drop_of_length-le s {i = i} (ltb-false i (length s) g)) at inv.rest

-- the joined text stands at its front, and the next line is written behind
pub over_long : (xs buf : List ℕ) → length xs ≤ length buf → length (over xs buf) ≡ length buf
over_long xs buf h = omega (arith, length-append xs (drop (length xs) buf), length-drop (length xs) buf)

pub take-sets : (xs l : List ℕ) (i j : ℕ) → i ≤ j → take i (sets l j xs) ≡ take i l
take-sets [] l i j h = refl
take-sets (x ∷ xs) l i j h = take-sets xs (set l j x) i (suc j) (omega arith) ∙ take-set-le i l j x h

pub drop-sets : (xs l : List ℕ) (i j : ℕ) → j + length xs ≤ i → drop i (sets l j xs) ≡ drop i l
drop-sets [] l i j h = refl
drop-sets (x ∷ xs) l i j h = drop-sets xs (set l j x) i (suc j) (omega arith) ∙ drop-set-lt i l j x (omega arith)
