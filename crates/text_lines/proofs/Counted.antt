-- The line of a number on paper: it is missing exactly where there is none, and it begins behind the LFs of the lines before it.
-- Assumes nothing.
use Rattle.std.specs.Prelude.{None, Option, Some}
use mathlib.Core.Path.{◌≡◌, refl, sym, ◌∙◌, ap}
use mathlib.Core.Bool.{Bool, true, false, cond, ◌||◌}
use mathlib.Core.List.{List, [], ◌∷◌, map}
use mathlib.Core.Logic.{◌⊎◌, inl, inr}
use Prim.Native.Nat.{ℕ, zero, suc, ◌+◌, ◌-◌, ◌<◌, ◌≤◌}
use native.Mathlib.Nat.{add-zero, zero-add}
use native.Mathlib.Omega.{arith}
use borrow.Author.Tests.{ltb-true, ltb-false, eq-eqb, ne_eqb, le-ltb, lt-ltb}
use lib.Dec.{eqb, ltb, eqb-suc-zero}
use lib.ListN.{length, get_or, drop, length-map}
use Rattle.base_refusals.specs.Numbers.{Paper, refused_paper, passed_paper}
use Rattle.base_refusals.specs.Orders.{in_order, on_paper}
use Rattle.base_refusals.specs.declared.Refusal.TheVariants.{NothingThere}
use Rattle.text_lines.specs.declared.Range.{Range}
use Rattle.text_lines.specs.Lines.{lines, first_of, line_from, ranges_from, ranges, bytes_of, pick, line_of, line_paper, is_no_line, behind_lfs, line_start, numbered_line}
use Rattle.text_lines.proofs.Lines.{after, line_at_lem, lines_end, next_beyond, pick_on, pick_zero, ranges_at, ranges_end, line_found}

-- ---- the two ways to say the lines of a text agree

abbrev Agree : List ℕ → ℕ → Type 0
Agree t at = map (bytes_of t) (after at (drop at t)) ≡ lines (drop at t)

agree : (fuel : ℕ) (t : List ℕ) (at : ℕ) → length t ≤ at + fuel → Agree t at
agree zero t at h = rw (ranges_end t at (omega arith), lines_end t at (omega arith))
agree (suc fuel) t at h = go (ltb at (length t)) refl (agree fuel t)
  where
    go : (x : Bool) → ltb at (length t) ≡ x → ((k : ℕ) → length t ≤ k + fuel → Agree t k) → Agree t at
    go false x ih = let k = ltb-false at (length t) x in rw (ranges_end t at k, lines_end t at k)
    go true x ih = let k = ltb-true at (length t) x in rw (ranges_at t at k, line_at_lem t at k, ih (line_from t at).next (omega (arith, next_beyond t at k)))

pub ranges-lines : (t : List ℕ) → map (bytes_of t) (ranges t) ≡ lines t
unfolding ranges
ranges-lines t = agree (length t) t 0 (omega arith)

count : (t : List ℕ) → length (ranges t) ≡ length (lines t)
count t = sym (length-map (ranges t) (bytes_of t)) ∙ ap length (ranges-lines t)

-- ---- line 0 and a line past the last are missing, and no others are

pick_past : (n : ℕ) (ls : List Range) → length ls < n → pick n ls ≡ None
unfolding pick
pick_past n [] h = refl
pick_past n (l ∷ ls) h = pick_on n l ls (omega arith) ∙ pick_past (n - 1) ls (omega arith)

pick_none : (n : ℕ) (ls : List Range) → 0 < n → pick n ls ≡ None → length ls < n
unfolding pick
pick_none n [] h e = h
pick_none zero (l ∷ ls) h e = absurd (omega arith)
pick_none (suc zero) (l ∷ ls) h e = let z : ◌≡◌ {A = ℕ} 0 1 = cc in absurd (omega arith)
pick_none (suc (suc n)) (l ∷ ls) h e = omega (arith, pick_none (suc n) ls (omega arith) (rw (eqb-suc-zero n) at e))

pub line_missing : (n : ℕ) (t : List ℕ) → line_of n t ≡ None → (n ≡ 0) ⊎ (length (lines t) < n)
unfolding line_of
line_missing zero t q = inl refl
line_missing (suc n) t q = inr (omega (arith, count t, pick_none (suc n) (ranges t) (omega arith) q))

pub missing_line : (n : ℕ) (t : List ℕ) → (n ≡ 0) ⊎ (length (lines t) < n) → line_of n t ≡ None
unfolding line_of
missing_line n t (inl e) = rw e (pick_zero (ranges t))
missing_line n t (inr h) = pick_past n (ranges t) (omega (arith, count t))

-- ---- where it begins

front : (s : List ℕ) → behind_lfs s 0 ≡ 0
unfolding behind_lfs
front [] = refl
front (b ∷ s) = refl

-- n lines behind the one that begins at `from`, where the text goes on with s at place `at`
abbrev Begins : ℕ → ℕ → ℕ → List ℕ → Range → Type 0
Begins n from at s r = r.from ≡ cond (eqb n 0) from (at + behind_lfs s n)

starts : (n from : ℕ) (c : Bool) (at : ℕ) (s : List ℕ) (r : Range) → pick (suc n) (ranges_from from c at s) ≡ Some r → Begins n from at s r
unfolding pick ranges_from behind_lfs
starts n from c at [] r q = go (ltb from at) n q
  where
    go : (x : Bool) (n : ℕ) → pick (suc n) (cond x (record { from = from; to = at } ∷ []) []) ≡ Some r → Begins n from at [] r
    go true zero e = let z : r ≡ record { from = from; to = at } = cc in rw z
    go true (suc n) e = let m = rw (eqb-suc-zero n) at e in let z : ◌≡◌ {A = ℕ} 0 1 = cc in absurd (omega arith)
    go false n e = let z : ◌≡◌ {A = ℕ} 0 1 = cc in absurd (omega arith)
starts n from c at (b ∷ s) r q = go (eqb b 10) refl n q (starts n from (eqb b 13) (suc at) s r) (λ k. starts k (suc at) false (suc at) s r)
  where
    go : (x : Bool) → eqb b 10 ≡ x → (n : ℕ) → pick (suc n) (cond x (record { from = from; to = cond c (at - 1) at } ∷ after (suc at) s) (ranges_from from (eqb b 13) (suc at) s)) ≡ Some r
        → (pick (suc n) (ranges_from from (eqb b 13) (suc at) s) ≡ Some r → Begins n from (suc at) s r) → ((k : ℕ) → pick (suc k) (after (suc at) s) ≡ Some r → Begins k (suc at) (suc at) s r)
        → Begins n from at (b ∷ s) r
    go true x zero e ih next = let z : r ≡ record { from = from; to = cond c (at - 1) at } = cc in rw z
    go true x (suc zero) e ih next = rw (x, front s) (omega (arith, next 0 e))
    go true x (suc (suc n)) e ih next = rw (x, eqb-suc-zero) (omega (arith, rw (eqb-suc-zero n) at (next (suc n) (rw (eqb-suc-zero (suc n)) at e))))
    go false x zero e ih next = ih e
    go false x (suc n) e ih next = rw (x, eqb-suc-zero n) (omega (arith, rw (eqb-suc-zero n) at (ih e)))

begins_at : (n : ℕ) (t : List ℕ) {r : Range} → line_of n t ≡ Some r → r.from ≡ line_start n t
unfolding line_of ranges
begins_at zero t {r} q =
    let e : None ≡ Some r = rw pick_zero at q in
    let z : ◌≡◌ {A = ℕ} 0 1 = cc in
    absurd (omega arith)
begins_at (suc zero) t {r} q = starts 0 0 false 0 t r q ∙ sym (front t)
begins_at (suc (suc n)) t {r} q =
    let m : suc (suc n) - 1 ≡ suc n = omega arith in
    rw m ((rw (eqb-suc-zero n) at (starts (suc n) 0 false 0 t r q)) ∙ zero-add (behind_lfs t (suc n)))

-- ---- the line of a number on paper

first_drop : (n : ℕ) (ls : List (List ℕ)) → first_of (drop n ls) ≡ get_or ls n []
first_drop zero [] = refl
first_drop (suc n) [] = refl
first_drop zero (l ∷ ls) = refl
first_drop (suc n) (l ∷ ls) = first_drop n ls

module _ (n : ℕ) (t : List ℕ) where
  pub no_line : line_of n t ≡ None → is_no_line n t ≡ true
  no_line q = go (line_missing n t q)
    where
      go : (n ≡ 0) ⊎ (length (lines t) < n) → is_no_line n t ≡ true
      go (inl e) = rw (eq-eqb n 0 e)
      go (inr h) = rw (ne_eqb n 0 (λ e. omega arith), lt-ltb (length (lines t)) n h)

  module _ {r : Range} (q : line_of n t ≡ Some r) where
    pub some_line : is_no_line n t ≡ false
    some_line = let f = line_found n t r q in rw (ne_eqb n 0 (λ e. omega (arith, f.some)), le-ltb (length (lines t)) n f.within)

    pub line_begins : r.from ≡ line_start n t
    line_begins = begins_at n t q

    line_ends : r.to ≡ line_start n t + length (get_or (lines t) (n - 1) [])
    unfolding line_from
    line_ends = let f = line_found n t r q in f.end ∙ rw (f.rest, first_drop (n - 1) (lines t), line_begins)

pub line_paper_lem : (n : ℕ) (t : List ℕ) → line_paper (line_of n t) ≡ numbered_line n t
unfolding on_paper in_order
line_paper_lem n t = go (line_of n t) refl
  where
    go : (l : Option Range) → line_of n t ≡ l → line_paper l ≡ numbered_line n t
    go None q = rw (no_line n t q)
    go (Some r) q = rw (some_line n t q, line_begins n t q, line_ends n t q)
