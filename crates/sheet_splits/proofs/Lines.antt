-- The lines of a text that is parted behind an LF.
-- Assumes nothing.
use mathlib.Core.Path.{◌≡◌, refl, ◌∙◌, ap}
use mathlib.Core.Bool.{Bool, true, false, cond, ◌&&◌}
use mathlib.Core.List.{List, [], ◌∷◌, ◌++◌}
use Prim.Native.Nat.{ℕ, zero, suc, ◌+◌, ◌<◌, min}
use native.Mathlib.Omega.{arith}
use lib.Dec.{eqb}
use lib.ListN.{length, drop, length-append, length-drop}
use lib.Seq.{drop-append-le, drop-append-add}
use Rattle.text_lines.specs.Lines.{onto, is_dropped, lines, eol, first_of, line_from}
use Rattle.text_lines.specs.declared.LineEnd.{LineEnd}
use Rattle.sheet_splits.specs.Parting.{is_whole}

-- a text that isn't empty has a line
onto_some : (b : ℕ) (ls : List (List ℕ)) (ms : List (List ℕ)) → 0 < length ls → onto b (ls ++ ms) ≡ onto b ls ++ ms
onto_some b [] ms h = absurd (omega arith)
onto_some b (l ∷ ls) ms h = refl

pub some_line : (b : ℕ) (s : List ℕ) → 0 < length (lines (b ∷ s))
unfolding lines
some_line b [] = go (eqb b 10) (eqb b 13)
  where
    go : (x y : Bool) → 0 < length (cond x ([] ∷ []) (cond (y && false) [] (onto b [])))
    go true y = omega arith
    go false true = omega arith
    go false false = omega arith
some_line b (a ∷ s) = go (eqb b 10) (is_dropped b (a ∷ s)) (lines (a ∷ s)) (some_line a s)
  where
    go : (x y : Bool) (ls : List (List ℕ)) → 0 < length ls → 0 < length (cond x ([] ∷ ls) (cond y ls (onto b ls)))
    go true y ls h = omega arith
    go false true ls h = h
    go false false [] h = omega arith
    go false false (l ∷ ls) h = omega arith

pub lines-append : (x y : List ℕ) → is_whole x ≡ true → lines (x ++ y) ≡ lines x ++ lines y
unfolding lines is_whole
lines-append [] y w = refl
lines-append (b ∷ []) y w = rw w
lines-append (b ∷ a ∷ s) y w = go (eqb b 10) (is_dropped b (a ∷ s)) (lines-append (a ∷ s) y w)
  where
    go : (p q : Bool) → lines (a ∷ (s ++ y)) ≡ lines (a ∷ s) ++ lines y
        → cond p ([] ∷ lines (a ∷ (s ++ y))) (cond q (lines (a ∷ (s ++ y))) (onto b (lines (a ∷ (s ++ y))))) ≡ cond p ([] ∷ lines (a ∷ s)) (cond q (lines (a ∷ s)) (onto b (lines (a ∷ s)))) ++ lines y
    go true q ih = ap (λ (l : List (List ℕ)). [] ∷ l) ih
    go false true ih = ih
    go false false ih = ap (onto b) ih ∙ onto_some b (lines (a ∷ s)) (lines y) (some_line a s)

-- a part of it is is_whole too
pub whole_drop : (x : List ℕ) (i : ℕ) → is_whole x ≡ true → is_whole (drop i x) ≡ true
unfolding is_whole
whole_drop x zero w = w
whole_drop [] (suc i) w = refl
whole_drop (b ∷ []) (suc i) w = go i
  where
    go : (i : ℕ) → is_whole (drop i []) ≡ true
    go zero = refl
    go (suc i) = refl
whole_drop (b ∷ c ∷ s) (suc i) w = whole_drop (c ∷ s) i w

-- its first LF
eol_some : (b : ℕ) (s y : List ℕ) → is_whole (b ∷ s) ≡ true → (eol (b ∷ (s ++ y)) ≡ eol (b ∷ s)) × (eol (b ∷ s) < length (b ∷ s))
unfolding eol is_whole
eol_some b [] y w = rw w (refl, omega arith)
eol_some b (a ∷ s) y w = go (eqb b 10) (eol_some a s y w)
  where
    go : (p : Bool) → (eol (a ∷ (s ++ y)) ≡ eol (a ∷ s)) × (eol (a ∷ s) < length (a ∷ s))
        → (cond p 0 (suc (eol (a ∷ (s ++ y)))) ≡ cond p 0 (suc (eol (a ∷ s)))) × (cond p 0 (suc (eol (a ∷ s))) < suc (length (a ∷ s)))
    go true ih = (refl, omega arith)
    go false ih = (ap suc ih.0, omega (arith, ih.1))

first_append : (ls ms : List (List ℕ)) → 0 < length ls → first_of (ls ++ ms) ≡ first_of ls
first_append [] ms h = absurd (omega arith)
first_append (l ∷ ls) ms h = refl

-- what follows doesn't change a line
same_end : (s y : List ℕ) (at : ℕ) → 0 < length s → is_whole s ≡ true
    → ◌≡◌ {A = LineEnd} (record { to = at + length (first_of (lines (s ++ y))); next = at + min (suc (eol (s ++ y))) (length (s ++ y)) }) (record { to = at + length (first_of (lines s)); next = at + min (suc (eol s)) (length s) })
same_end [] y at h w = absurd (omega arith)
same_end (b ∷ s) y at h w =
    let e = eol_some b s y w in
    let z : min (suc (eol (b ∷ s))) (suc (length (s ++ y))) ≡ min (suc (eol (b ∷ s))) (suc (length s)) = omega (arith, e.1, length-append s y) in
    rw (lines-append (b ∷ s) y w, first_append (lines (b ∷ s)) (lines y) (some_line b s), e.0, z)

module _ (x y : List ℕ) (w : is_whole x ≡ true) (at : ℕ) (h : at < length x) where
  drop_is : drop at (x ++ y) ≡ drop at x ++ y
  drop_is = drop-append-le at x y (omega arith)

  pub lines_front : lines (drop at (x ++ y)) ≡ lines (drop at x) ++ lines y
  lines_front = rw drop_is (lines-append (drop at x) y (whole_drop x at w))

  pub end_front : line_from (x ++ y) at ≡ line_from x at
  unfolding line_from
  end_front = rw drop_is (same_end (drop at x) y at (omega (arith, length-drop at x)) (whole_drop x at w))

-- behind the front part
module _ (x y : List ℕ) (at : ℕ) where
  pub drop-behind : drop (length x + at) (x ++ y) ≡ drop at y
  drop-behind = drop-append-add x y at

  pub end_behind : line_from (x ++ y) (length x + at) ≡ record { to = length x + (line_from y at).to; next = length x + (line_from y at).next }
  unfolding line_from
  end_behind = rw drop-behind (ends (omega arith) (omega arith))
    where
      ends : {a b c d : ℕ} → a ≡ c → b ≡ d → ◌≡◌ {A = LineEnd} (record { to = a; next = b }) (record { to = c; next = d })
      ends p q = rw (p, q)
