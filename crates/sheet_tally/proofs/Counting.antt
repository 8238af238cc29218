-- A block more, by what is said of it; and the lines that hold so many bytes.
-- Assumes nothing.
use mathlib.Core.Path.{◌≡◌, refl, sym, ◌∙◌, ap}
use mathlib.Core.Bool.{Bool, true, false, cond}
use mathlib.Core.List.{List, [], ◌∷◌}
use Prim.Native.Nat.{ℕ, suc, ◌+◌, ◌-◌, ◌<◌, ◌≤◌}
use native.Mathlib.Nat.{add-zero}
use native.Mathlib.Omega.{arith}
use borrow.Author.Tests.{eq-eqb, ne_eqb, lt-ltb, le-ltb}
use lib.Dec.{eqb, ltb}
use lib.ListN.{length, get_or, set, drop, length-drop}
use lib.Seq.{slice, length-slice}
use Rattle.base_refusals.specs.Numbers.{max_text}
use Rattle.text_lines.specs.Lines.{onto, is_dropped, lines, line_from}
use Rattle.text_lines.specs.declared.LineEnd.{LineEnd}
use Rattle.text_lines.proofs.Lines.{lines_end, line_at_lem, to_from, to_next, next_beyond, next_le}
use Rattle.sheet_totals.specs.declared.Totals.{Totals}
use Rattle.sheet_tally.specs.Inner.{lines_within, add_at, raised_to, with_printed, with_refused, refused_numbers}

-- ---- a refused block, and a refused sheet

module _ (ns : List ℕ) {n m : ℕ} (e : n ≡ m) where
  pub by_six : n ≡ 6 → add_at 5 1 ns ≡ with_refused m ns
  unfolding with_refused
  by_six q = rw (← e, q)

  module _ (p : n ≡ 6 → ⊥) where
    pub by_seven : n ≡ 7 → add_at 6 1 ns ≡ with_refused m ns
    unfolding with_refused
    by_seven q = rw (← e, q)

    module _ (q : n ≡ 7 → ⊥) where
      pub by_ten : n ≡ 10 → add_at 7 1 ns ≡ with_refused m ns
      unfolding with_refused
      by_ten r = rw (← e, r)

      pub by_none : (n ≡ 10 → ⊥) → ns ≡ with_refused m ns
      unfolding with_refused
      by_none r = rw (← e, ne_eqb n 6 p, ne_eqb n 7 q, ne_eqb n 10 r)

-- ---- the longest

pub longer : (ns : List ℕ) (k : ℕ) → get_or ns 12 0 < k → set ns 12 k ≡ raised_to k ns
unfolding raised_to
longer ns k h = rw (lt-ltb (get_or ns 12 0) k h)

pub no_longer : (ns : List ℕ) (k : ℕ) → k ≤ get_or ns 12 0 → ns ≡ raised_to k ns
unfolding raised_to
no_longer ns k h = rw (le-ltb (get_or ns 12 0) k h)

-- ---- lines counted up to so many bytes

pub within_none : (ls : List (List ℕ)) → lines_within ls 0 ≡ 0
unfolding lines_within
within_none [] = refl
within_none (l ∷ ls) = refl

pub within_some : (l : List ℕ) (ls : List (List ℕ)) (left : ℕ) → (left ≡ 0 → ⊥) → lines_within (l ∷ ls) left ≡ suc (lines_within ls (left - length l))
unfolding lines_within
within_some l ls left h = rw (ne_eqb left 0 h)

pub within_le : (ls : List (List ℕ)) (left : ℕ) → lines_within ls left ≤ length ls
unfolding lines_within
within_le [] left = omega arith
within_le (l ∷ ls) left = go (eqb left 0) (within_le ls (left - length l))
  where
    go : (b : Bool) → lines_within ls (left - length l) ≤ length ls → cond b 0 (suc (lines_within ls (left - length l))) ≤ suc (length ls)
    go true h = omega arith
    go false h = omega arith

-- every line has a byte, its LF at least
pub lines_few : (s : List ℕ) → length (lines s) ≤ length s
unfolding lines
lines_few [] = omega arith
lines_few (b ∷ s) = go (eqb b 10) (is_dropped b s) (lines s) (lines_few s)
  where
    go : (x y : Bool) (ls : List (List ℕ)) → length ls ≤ length s → length (cond x ([] ∷ ls) (cond y ls (onto b ls))) ≤ suc (length s)
    go true y ls h = omega arith
    go false true ls h = omega arith
    go false false [] h = omega arith
    go false false (l ∷ ls) h = omega arith

pub joined_low : (t : List ℕ) (at left : ℕ) {n : ℕ} → n ≡ lines_within (lines (drop at t)) left → length t ≤ max_text → n ≤ max_text
joined_low t at left e h = omega (arith, e, h, within_le (lines (drop at t)) left, lines_few (drop at t), length-drop at t)

-- before the line at `from`, n lines are counted, and so many bytes are left
pub record Within (t : List ℕ) (R : ℕ) (n left from : ℕ) : Type 0 where
  pub few : n ≤ from
  pub rest : n + lines_within (lines (drop from t)) left ≡ R

pub within-start : (t : List ℕ) (at bytes : ℕ) → Within t (lines_within (lines (drop at t)) bytes) 0 bytes at
within-start t at bytes = record { few = omega arith; rest = omega arith }

module _ {t : List ℕ} {R n left from : ℕ} (inv : Within t R n left from) where
  pub within_stop : left ≡ 0 → n ≡ R
  within_stop e = omega (arith, inv.rest, none)
    where
      none : lines_within (lines (drop from t)) left ≡ 0
      none = rw e (within_none (lines (drop from t)))

  pub within_end : length t ≤ from → n ≡ R
  unfolding lines_within
  within_end h = sym (add-zero n) ∙ (rw (lines_end t from h) at inv.rest)

  module _ (s : left ≡ 0 → ⊥) (h : from < length t) {l : LineEnd} (e : l ≡ line_from t from) where
    pub size_from : from ≤ l.to
    size_from = rw e (to_from t from)

    pub within_room : n < length t
    within_room = omega (arith, inv.few, h)

    next : n + suc (lines_within (lines (drop l.next t)) (left - (l.to - from))) ≡ R
    next = rw e (ap (λ k. n + suc (lines_within (lines (drop (line_from t from).next t)) (left - k))) (sym size) ∙ (rw (line_at_lem t from h, within_some _ _ left s) at inv.rest))
      where
        size : length (slice from (line_from t from).to t) ≡ (line_from t from).to - from
        size = length-slice from (line_from t from).to t (omega (arith, to_next t from, next_le t from h))

    pub within_last : left ≤ l.to - from → n + 1 ≡ R
    within_last k = omega (arith, next, none)
      where
        none : lines_within (lines (drop l.next t)) (left - (l.to - from)) ≡ 0
        none = let z : left - (l.to - from) ≡ 0 = omega (arith, k) in rw z (within_none (lines (drop l.next t)))

    pub within_less : length t - l.next < length t - from
    within_less = rw e (omega (arith, next_beyond t from h))

    pub within_go : Within t R (n + 1) (left - (l.to - from)) l.next
    within_go = record { few = rw e (omega (arith, inv.few, next_beyond t from h)); rest = omega (arith, next) }

-- ---- a refused sheet

abbrev one_sheet : List ℕ
one_sheet = 1 ∷ 0 ∷ 0 ∷ 0 ∷ 0 ∷ 0 ∷ 0 ∷ 0 ∷ 0 ∷ 0 ∷ 0 ∷ 0 ∷ 0 ∷ []

module _ {n m : ℕ} (e : n ≡ m) {r : Totals} (s : r ≡ record { numbers = one_sheet }) where
  pub sheet_one : n ≡ 1 → set r.numbers 3 1 ≡ refused_numbers m
  unfolding refused_numbers
  sheet_one q = rw (s, ← e, q)

  module _ (p : n ≡ 1 → ⊥) where
    pub sheet_two : n ≡ 2 → set r.numbers 4 1 ≡ refused_numbers m
    unfolding refused_numbers
    sheet_two q = rw (s, ← e, q)

    pub sheet_none : (n ≡ 2 → ⊥) → r ≡ record { numbers = refused_numbers m }
    unfolding refused_numbers
    sheet_none q = s ∙ (rw (← e, ne_eqb n 1 p, ne_eqb n 2 q))

-- a block is wrapped or not
pub one_le : (n : ℕ) {k : ℕ} → k ≡ cond (ltb 1 n) 1 0 → k ≤ 1
one_le n e = go (ltb 1 n) e
  where
    go : (b : Bool) {k : ℕ} → k ≡ cond b 1 0 → k ≤ 1
    go true e = omega arith
    go false e = omega arith

-- a printed block, number after number
pub printed_by : (n classes keys : ℕ) (ns : List ℕ) {k : ℕ} {a b c d r : Totals} → a ≡ record { numbers = add_at 1 1 ns } → k ≡ cond (ltb 1 n) 1 0 → b ≡ record { numbers = add_at 2 k a.numbers }
    → c ≡ record { numbers = add_at 8 classes b.numbers } → d ≡ record { numbers = add_at 9 keys c.numbers } → r ≡ record { numbers = raised_to n d.numbers }
    → r ≡ record { numbers = with_printed n classes keys ns }
unfolding with_printed
printed_by n classes keys ns p w q s u v = v ∙ (rw (u, s, q, p, w))
