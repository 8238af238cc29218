-- The first line of a list of bytes: the bytes before its LF without a CR just before that, or all bytes where there is no LF.
-- Assumes nothing.
use mathlib.Core.Path.{◌≡◌, refl, sym, ◌∙◌, ap}
use mathlib.Core.Bool.{Bool, true, false, cond, ◌&&◌}
use mathlib.Core.List.{List, [], ◌∷◌}
use Prim.Native.Nat.{ℕ, suc, ◌-◌, ◌<◌, ◌≤◌, zero-le, min}
use native.Mathlib.Omega.{arith}
use lib.Dec.{eqb}
use lib.ListN.{length, get_or, take, drop}
use Rattle.text_lines.specs.Lines.{before_lf, onto, is_dropped, lines, eol, first_of}
use Rattle.base_lists.proofs.Parts.{drop_min}

onto_first : (b : ℕ) (ls : List (List ℕ)) → first_of (onto b ls) ≡ b ∷ first_of ls
onto_first b [] = refl
onto_first b (l ∷ ls) = refl

-- ---- how it goes on from its first byte

-- nothing stands before an LF at the front, and a CR that is dropped has such an LF behind it
first_none : (s : List ℕ) → before_lf s ≡ true → first_of (lines s) ≡ []
unfolding lines
first_none [] e = refl
first_none (a ∷ s) e = rw e

dropped : (b : ℕ) (s : List ℕ) → is_dropped b s ≡ true → first_of (lines s) ≡ []
dropped b s e = go (eqb b 13) e
  where
    go : (x : Bool) → (x && before_lf s) ≡ true → first_of (lines s) ≡ []
    go true e = first_none s e
    go false e = let z : ◌≡◌ {A = ℕ} 0 1 = cc in absurd (omega arith)

pub first_cons : (b : ℕ) (s : List ℕ) → first_of (lines (b ∷ s)) ≡ cond (eqb b 10) [] (cond (is_dropped b s) [] (b ∷ first_of (lines s)))
unfolding lines
first_cons b s = go (eqb b 10) (is_dropped b s) refl
  where
    go : (x y : Bool) → is_dropped b s ≡ y → first_of (cond x ([] ∷ lines s) (cond y (lines s) (onto b (lines s)))) ≡ cond x [] (cond y [] (b ∷ first_of (lines s)))
    go true y e = refl
    go false true e = dropped b s e
    go false false e = onto_first b (lines s)

-- a byte with no LF behind it stays, and one with an LF behind it too, unless it is a CR
pub first_on : (b : ℕ) (s : List ℕ) → eqb b 10 ≡ false → before_lf s ≡ false → first_of (lines (b ∷ s)) ≡ b ∷ first_of (lines s)
first_on b s e p = rw (first_cons, e, p) (go (eqb b 13))
  where
    go : (y : Bool) → cond (y && false) [] (b ∷ first_of (lines s)) ≡ b ∷ first_of (lines s)
    go true = refl
    go false = refl

pub first_stop : (b : ℕ) (s : List ℕ) → eqb b 10 ≡ false → before_lf s ≡ true → first_of (lines (b ∷ s)) ≡ cond (eqb b 13) [] (b ∷ [])
first_stop b s e p = rw (first_cons, e, p, first_none s p) (go (eqb b 13))
  where
    go : (y : Bool) → cond (y && true) [] (b ∷ []) ≡ cond y [] (b ∷ [])
    go true = refl
    go false = refl

-- ---- what stands behind it

-- a text that isn't empty is its first line and the lines behind that one's LF
first_rest : (b : ℕ) (s : List ℕ) → lines (b ∷ s) ≡ first_of (lines (b ∷ s)) ∷ lines (drop (eol (b ∷ s)) s)
unfolding lines eol
first_rest b [] = go (eqb b 10) (eqb b 13)
  where
    go : (x y : Bool) → cond x ([] ∷ []) (cond (y && false) [] (onto b [])) ≡ first_of (cond x ([] ∷ []) (cond (y && false) [] (onto b []))) ∷ lines (drop (cond x 0 1) [])
    go true y = refl
    go false true = refl
    go false false = refl
first_rest b (a ∷ s) = go (eqb b 10) (is_dropped b (a ∷ s)) (first_rest a s)
  where
    go : (x y : Bool) → lines (a ∷ s) ≡ first_of (lines (a ∷ s)) ∷ lines (drop (eol (a ∷ s)) s)
        → cond x ([] ∷ lines (a ∷ s)) (cond y (lines (a ∷ s)) (onto b (lines (a ∷ s)))) ≡ first_of (cond x ([] ∷ lines (a ∷ s)) (cond y (lines (a ∷ s)) (onto b (lines (a ∷ s))))) ∷ lines (drop (cond x 0 (suc (eol (a ∷ s)))) (a ∷ s))
    go true y ih = refl
    go false true ih = ih
    go false false ih = ap (onto b) ih ∙ ap (λ (l : List ℕ). l ∷ lines (drop (eol (a ∷ s)) s)) (sym (onto_first b (lines (a ∷ s))))

pub rest_of : (s : List ℕ) → 0 < length s → lines s ≡ first_of (lines s) ∷ lines (drop (min (suc (eol s)) (length s)) s)
rest_of [] h = absurd (omega arith)
rest_of (b ∷ s) h = rw (drop_min (suc (eol (b ∷ s))) (b ∷ s)) (first_rest b s)

-- ---- how long it is

pub eol_le : (s : List ℕ) → eol s ≤ length s
unfolding eol
eol_le [] = zero-le
eol_le (b ∷ s) = go (eqb b 10) (eol_le s)
  where
    go : (x : Bool) → eol s ≤ length s → cond x 0 (suc (eol s)) ≤ length (b ∷ s)
    go true ih = zero-le
    go false ih = omega arith

pub first_le : (s : List ℕ) → length (first_of (lines s)) ≤ eol s
unfolding eol lines
first_le [] = zero-le
first_le (b ∷ s) = rw first_cons (go (eqb b 10) (is_dropped b s) (first_le s))
  where
    go : (x y : Bool) → length (first_of (lines s)) ≤ eol s → length (cond x [] (cond y [] (b ∷ first_of (lines s)))) ≤ cond x 0 (suc (eol s))
    go true y ih = zero-le
    go false true ih = zero-le
    go false false ih = omega arith

-- its bytes are the first of the list
abbrev Front : List ℕ → List ℕ → Type 0
Front l s = l ≡ take (length l) s

pub first_take : (s : List ℕ) → first_of (lines s) ≡ take (length (first_of (lines s))) s
unfolding lines
first_take [] = refl
first_take (b ∷ s) = rw first_cons (go (eqb b 10) (is_dropped b s) (first_take s))
  where
    go : (x y : Bool) → Front (first_of (lines s)) s → Front (cond x [] (cond y [] (b ∷ first_of (lines s)))) (b ∷ s)
    go true y ih = refl
    go false true ih = refl
    go false false ih = ap (λ (l : List ℕ). b ∷ l) ih

-- with no LF it is the whole list
open_end : (s : List ℕ) → length s ≤ eol s → before_lf s ≡ false
unfolding eol
open_end [] h = refl
open_end (a ∷ s) h = go (eqb a 10) h
  where
    go : (x : Bool) → suc (length s) ≤ cond x 0 (suc (eol s)) → x ≡ false
    go true h = absurd (omega arith)
    go false h = refl

pub first_whole : (s : List ℕ) → length s ≤ eol s → first_of (lines s) ≡ s
unfolding eol lines
first_whole [] h = refl
first_whole (b ∷ s) h = go (eqb b 10) refl h (first_whole s)
  where
    go : (x : Bool) → eqb b 10 ≡ x → suc (length s) ≤ cond x 0 (suc (eol s)) → (length s ≤ eol s → first_of (lines s) ≡ s) → first_of (lines (b ∷ s)) ≡ b ∷ s
    go true p h ih = absurd (omega arith)
    go false p h ih = first_on b s p (open_end s (omega arith)) ∙ ap (λ (l : List ℕ). b ∷ l) (ih (omega arith))

-- with an LF it ends there, or at the CR before it
abbrev Cut : ℕ → List ℕ → Type 0
Cut b s = length (first_of (lines (b ∷ s))) ≡ cond (eqb (get_or (b ∷ s) (eol s) 0) 13) (eol s) (suc (eol s))

cut : (b : ℕ) (s : List ℕ) → eqb b 10 ≡ false → eol s < length s → Cut b s
unfolding eol
cut b [] e h = absurd (omega arith)
cut b (a ∷ s) e h = go (eqb a 10) refl h (cut a s)
  where
    one : (y : Bool) → length (cond y [] (b ∷ [])) ≡ cond y 0 1
    one true = refl
    one false = refl

    more : (y : Bool) (n : ℕ) → suc (cond y n (suc n)) ≡ cond y (suc n) (suc (suc n))
    more true n = refl
    more false n = refl

    go : (x : Bool) → eqb a 10 ≡ x → cond x 0 (suc (eol s)) < suc (length s) → (eqb a 10 ≡ false → eol s < length s → Cut a s) → Cut b (a ∷ s)
    go true p h ih = rw (first_stop b (a ∷ s) e p, p) (one (eqb b 13))
    go false p h ih = rw (first_on b (a ∷ s) e p, p, ih p (omega arith)) (more (eqb (get_or (a ∷ s) (eol s) 0) 13) (eol s))

abbrev CutAt : List ℕ → ℕ → Type 0
CutAt s n = length (first_of (lines s)) ≡ cond (eqb (get_or s (n - 1) 0) 13) (n - 1) n

pub first_cut : (s : List ℕ) → 0 < eol s → eol s < length s → CutAt s (eol s)
unfolding eol
first_cut [] k h = absurd (omega arith)
first_cut (b ∷ s) k h = go (eqb b 10) refl k h
  where
    go : (x : Bool) → eqb b 10 ≡ x → 0 < cond x 0 (suc (eol s)) → cond x 0 (suc (eol s)) < suc (length s) → CutAt (b ∷ s) (cond x 0 (suc (eol s)))
    go true p k h = absurd (omega arith)
    go false p k h = let z : suc (eol s) - 1 ≡ eol s = omega arith in rw z (cut b s p (omega arith))
