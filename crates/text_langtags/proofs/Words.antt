-- The number of the bytes so far tells them, in small letters, while they are few: what the list of irregular tags is asked by.
-- Assumes nothing.
use mathlib.Core.Path.{◌≡◌, refl, sym, ◌∙◌, ap}
use mathlib.Core.Bool.{Bool, true, false, cond, not, ◌&&◌}
use mathlib.Core.List.{List, [], ◌∷◌, map, foldl, reverse, reverse_aux, reverse-reverse}
use Prim.Native.Nat.{ℕ, ◌+◌, ◌*◌, ◌-◌, ◌<◌, ◌≤◌}
use native.Mathlib.Omega.{arith}
use lib.Dec.{eqb, leb}
use borrow.Author.Tests.{eqb-true, eqb-false, leb-false, not-true}
use Rattle.base_lists.specs.Lists.{all, same, is_in}
use Rattle.base_lists.proofs.Steady.{steady}
use Rattle.base_lists.proofs.Scan.{both}
use Rattle.base_lists.proofs.Same.{same_true, same_of}
use Rattle.base_lists.proofs.More.{contra}
use Rattle.base_bytes.specs.Bytes.{within, is_letter, is_digit, is_alnum}
use Rattle.text_langtags.specs.Letters.{small, smalls, is_listed, irregulars}
use Rattle.text_langtags.specs.Inner.{unspelled, nine, is_spelled, spelled, word_of, is_word}
use Rattle.text_langtags.proofs.Subtags as sub
use Rattle.text_langtags.proofs.Cases.{cased, small-small}

-- ---- a byte's number
spelled_low : (b : ℕ) → is_spelled b ≡ true → b < 123
spelled_low b e = sub.or_case (is_alnum b) (eqb b 45) e (sub.alnum_low b) (λ q. omega (arith, eqb-true b 45 q))

small_range : (b : ℕ) → is_spelled b ≡ true → within 45 122 (small b) ≡ true
unfolding small within is_alnum is_letter is_digit
small_range b e = sym (rw e at (steady (λ b. cond (is_spelled b) (within 45 122 (small b)) true) true 0 123 b refl (omega arith) (spelled_low b e)))

pub spelled_range : (b : ℕ) → is_spelled b ≡ true → (45 ≤ small b) × (small b ≤ 122)
spelled_range b e = (sub.low 45 122 (small b) (small_range b e), sub.high 45 122 (small b) (small_range b e))

spelled_cased : (b : ℕ) → is_spelled (small b) ≡ is_spelled b
unfolding is_alnum is_letter is_digit within
spelled_cased = cased is_spelled refl

step_cased : (w b : ℕ) → spelled w (small b) ≡ spelled w b
unfolding spelled
step_cased w b = rw (spelled_cased b, small-small b)

word_cased : (s : List ℕ) (w : ℕ) → foldl spelled w (smalls s) ≡ foldl spelled w s
unfolding smalls
word_cased [] w = refl
word_cased (b ∷ s) w = ap (λ (v : ℕ). foldl spelled v (smalls s)) (step_cased w b) ∙ word_cased s (spelled w b)

-- ---- last byte first: a number tells its last byte and the number of the rest
word_back : List ℕ → ℕ
word_back [] = 0
word_back (b ∷ r) = spelled (word_back r) b

back : (s r : List ℕ) → foldl spelled (word_back r) s ≡ word_back (reverse_aux s r)
unfolding word_back
back [] r = refl
back (b ∷ s) r = back s (b ∷ r)

smalls_back : (s r : List ℕ) → smalls (reverse_aux s r) ≡ reverse_aux (smalls s) (smalls r)
unfolding smalls
smalls_back [] r = refl
smalls_back (b ∷ s) r = smalls_back s (b ∷ r)

-- a byte that has a number, behind few others
record Spelt (w b v : ℕ) : Type 0 where
  few : w < nine
  least : 45 ≤ small b
  most : small b ≤ 122
  is : v ≡ w * 84 + (small b - 39)

spelt : (w b v : ℕ) → spelled w b ≡ v → (v ≡ unspelled → ⊥) → Spelt w b v
unfolding spelled
spelt w b v e n = go (is_spelled b) refl (leb nine w) refl e
  where
    go : (c : Bool) → is_spelled b ≡ c → (d : Bool) → leb nine w ≡ d → cond c (cond d unspelled (w * 84 + (small b - 39))) unspelled ≡ v → Spelt w b v
    go true p true q e = absurd (n (sym e))
    go true p false q e = record { few = leb-false nine w q; least = (spelled_range b p).0; most = (spelled_range b p).1; is = sym e }
    go false p d q e = absurd (n (sym e))

told : (r q : List ℕ) → word_back r ≡ word_back q → (word_back q ≡ unspelled → ⊥) → smalls r ≡ smalls q
unfolding word_back smalls
told [] [] e n = refl
told [] (b ∷ q) e n = let h = spelt (word_back q) b (spelled (word_back q) b) refl n in absurd (omega (arith, h.is, h.least))
told (a ∷ r) [] e n = let h = spelt (word_back r) a 0 e n in absurd (omega (arith, h.is, h.least))
told (a ∷ r) (b ∷ q) e n =
    let h = spelt (word_back q) b (spelled (word_back q) b) refl n in
    let g = spelt (word_back r) a (spelled (word_back q) b) e n in
    let w : word_back r ≡ word_back q = omega (arith, h.is, g.is, h.least, g.least, h.most, g.most) in
    let c : small a ≡ small b = omega (arith, h.is, g.is, h.least, g.least, h.most, g.most) in
    rw (c, told r q w (λ z. omega (arith, h.few)))

pub word_told : (s t : List ℕ) → word_of s ≡ word_of t → (word_of t ≡ unspelled → ⊥) → smalls s ≡ smalls t
unfolding word_of word_back smalls
word_told s t e n =
    let q : smalls (reverse s) ≡ smalls (reverse t) = told (reverse s) (reverse t) (sym (back s []) ∙ (e ∙ back t [])) (λ z. n (back t [] ∙ z)) in
    let p : reverse (smalls s) ≡ reverse (smalls t) = sym (smalls_back s []) ∙ (q ∙ smalls_back t []) in
    sym (reverse-reverse (smalls s)) ∙ (ap reverse p ∙ reverse-reverse (smalls t))

-- ---- only where there are no bytes is the number 0
spelled_some : (w b : ℕ) → spelled w b ≡ 0 → ⊥
spelled_some w b e = let h = spelt w b 0 e (λ z. omega arith) in omega (arith, h.is, h.least)

more_some : (s : List ℕ) (w : ℕ) → (w ≡ 0 → ⊥) → foldl spelled w s ≡ 0 → ⊥
more_some [] w n e = n e
more_some (b ∷ s) w n e = more_some s (spelled w b) (spelled_some w b) e

pub word_some : (b : ℕ) (s : List ℕ) → foldl spelled 0 (b ∷ s) ≡ 0 → ⊥
word_some b s e = more_some s (spelled 0 b) (spelled_some 0 b) e

-- ---- the list of numbers and the list of tags

-- a tag that its number tells
abbrev is_told : List ℕ → Bool
is_told t = same (smalls t) t && not (eqb (word_of t) unspelled)

one : (s t : List ℕ) → is_told t ≡ true → eqb (word_of s) (word_of t) ≡ same t (smalls s)
unfolding word_of
one s t h = go (same t (smalls s)) refl (eqb (word_of s) (word_of t)) refl
  where
    f : (same (smalls t) t ≡ true) × (not (eqb (word_of t) unspelled) ≡ true)
    f = both (same (smalls t) t) (not (eqb (word_of t) unspelled)) h

    go : (c : Bool) → same t (smalls s) ≡ c → (d : Bool) → eqb (word_of s) (word_of t) ≡ d → d ≡ c
    go true p true q = refl
    go false p false q = refl
    go true p false q = absurd (eqb-false (word_of s) (word_of t) q (sym (word_cased s 0) ∙ ap word_of (sym (same_true t (smalls s) p))))
    go false p true q = contra (same t (smalls s)) (same_of (sym (same_true (smalls t) t f.0) ∙ sym (word_told s t (eqb-true (word_of s) (word_of t) q) (eqb-false (word_of t) unspelled (not-true (eqb (word_of t) unspelled) f.1))))) p

words_listed : (ts : List (List ℕ)) (s : List ℕ) → all is_told ts ≡ true → is_in (map word_of ts) (word_of s) ≡ is_listed ts (smalls s)
unfolding all is_in is_listed
words_listed [] s h = refl
words_listed (t ∷ ts) s h =
    let g = both (is_told t) (all is_told ts) h in
    rw (one s t g.0, words_listed ts s g.1)

all_told : all is_told irregulars ≡ true
unfolding all irregulars same smalls small within word_of spelled is_alnum is_letter is_digit
all_told = refl

pub word_listed : (s : List ℕ) → is_word (word_of s) ≡ is_listed irregulars (smalls s)
unfolding is_word
word_listed s = words_listed irregulars s all_told
