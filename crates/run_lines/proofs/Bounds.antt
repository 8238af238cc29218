-- What a run counts and how long its text grows.
-- Assumes nothing.
use Rattle.std.specs.Prelude.{Err, Ok, Option, Result}
use mathlib.Core.Path.{◌≡◌, refl, sym, ◌∙◌, ap}
use mathlib.Core.Bool.{Bool, true, false, cond, not, ◌&&◌}
use mathlib.Core.List.{List, [], ◌∷◌, map}
use Prim.Native.Nat.{ℕ, zero, suc, ◌+◌, ◌-◌, ◌*◌, ◌<◌, ◌≤◌, zero-le}
use native.Mathlib.Nat.{add-zero}
use native.Mathlib.Omega.{arith}
use borrow.Author.Tests.{ltb-true, ltb-false, le-ltb, ne_eqb, leb-true, leb-false}
use lib.Dec.{eqb, ltb, leb}
use lib.ListN.{length, take, drop, length-append, length-drop}
use Rattle.base_lists.specs.Lists.{is_in, run}
use lib.Seq.{length-take-le}
use Rattle.base_lists.proofs.Scan.{run_le}
use Rattle.base_lists.proofs.More.{contra}
use Rattle.base_bytes.specs.Bytes.{is_space, is_indent}
use Rattle.text_lines.specs.Trim.{trim}
use Rattle.text_lines.specs.Lines.{onto, is_dropped, lines}
use Rattle.text_lines.proofs.Trim.{trim_rest, trim_end_le}
use Rattle.text_tabs.specs.Columns.{indent_from, capped, most}
use Rattle.text_tabs.proofs.Laws.{capped_id, capped_le, capped_top, indent_front, columns_le}
use Rattle.block_payloads.specs.Payloads.{continues}
use Rattle.run_scanners.specs.Scanners.{in_quote, holds_open}
use Rattle.base_refusals.specs.Numbers.{number_of, outcome_no}
use Rattle.base_refusals.specs.declared.Refusal.TheVariants.{NoReading, JoinFull}
use Rattle.run_lines.specs.Runs.{as_is, start, Run, ended, run_from, run_of, run_at, sizes}
use Rattle.run_joins.specs.Joins.{Lined, So, is_first, goes_on, may_join, spaced, after}
use Rattle.base_refusals.specs.declared.Refusal.{Refusal}

-- ---- induction along a run: it ends, or a line doesn't fit, or a line is joined and it goes on or ends behind that one

module _ (cap : ℕ) (P : So → List Lined → Run → Type 0)
    (stops : (so : So) (ls : List Lined) → P so ls (ended (Err NoReading) so))
    (full : (so : So) (l : Lined) (ls : List Lined) → cap < length (after so l).text → P so (l ∷ ls) (ended (Err JoinFull) so))
    (closes : (so : So) (ls : List Lined) → P so ls (ended (Ok tt) so))
    (joins : (so : So) (l : Lined) (ls : List Lined) (R : Run) → may_join so l ≡ true → length (after so l).text ≤ cap → P (after so l) ls R → P so (l ∷ ls) R) where
  pub run_by_lem : (so : So) (ls : List Lined) → P so ls (run_from cap so ls)
  unfolding run_from
  run_by_lem so [] = stops so []
  run_by_lem so (l ∷ ls) = go (may_join so l) (ltb cap (length (after so l).text)) (is_in l.line 125 && not (holds_open (after so l).text)) refl refl (run_by_lem (after so l) ls)
    where
      go : (x y z : Bool) → may_join so l ≡ x → ltb cap (length (after so l).text) ≡ y → P (after so l) ls (run_from cap (after so l) ls)
          → P so (l ∷ ls) (cond x (cond y (ended (Err JoinFull) so) (cond z (ended (Ok tt) (after so l)) (run_from cap (after so l) ls))) (ended (Err NoReading) so))
      go false y z p q ih = stops so (l ∷ ls)
      go true true z p q ih = full so l ls (ltb-true cap _ q)
      go true false true p q ih = joins so l ls _ p (ltb-false cap _ q) (closes (after so l) ls)
      go true false false p q ih = joins so l ls _ p (ltb-false cap _ q) ih

-- ---- "The lookahead is the sum of the untrimmed lengths of the lines joined"

-- behind `so`, the run R joined n lines more
pub record Took (so : So) (ls : List Lined) (R : Run) : Type 0 where
  pub n : ℕ
  pub within : n ≤ length ls
  pub counted : R.lines ≡ so.lines + n
  pub ahead : R.lookahead ≡ so.lookahead + sizes (take n ls)

none : (x : Result (Unit {0}) Refusal) (so : So) (ls : List Lined) → Took so ls (ended x so)
unfolding sizes
none x so ls = record { n = 0; within = omega arith; counted = sym (add-zero so.lines); ahead = sym (add-zero so.lookahead) }

pub took : (cap : ℕ) (so : So) (ls : List Lined) → Took so ls (run_from cap so ls)
unfolding sizes
took cap =
    run_by_lem cap Took (none (Err NoReading)) (λ so l ls h. none (Err JoinFull) so (l ∷ ls)) (none (Ok tt))
    (λ so l ls R p h w. record { n = suc w.n; within = omega (arith, w.within); counted = omega (arith, w.counted); ahead = omega (arith, w.ahead) })

module _ (cap base : ℕ) (ls : List Lined) where
  abbrev R : Run
  R = run_of cap base ls

  first_lines : (took cap (start base) ls).n ≡ R.lines
  first_lines = omega (arith, (took cap (start base) ls).counted)

  pub lines_le : R.lines ≤ length ls
  lines_le = omega (arith, (took cap (start base) ls).counted, (took cap (start base) ls).within)

  pub lookahead_sum : R.lookahead ≡ sizes (take R.lines ls)
  lookahead_sum = rw (← first_lines) (omega (arith, (took cap (start base) ls).ahead))

-- "at most the text's length"
pub sizes-take : (n : ℕ) (ls : List Lined) → sizes (take n ls) ≤ sizes ls
unfolding sizes
sizes-take zero ls = zero-le
sizes-take (suc n) [] = zero-le
sizes-take (suc n) (l ∷ ls) = omega (arith, sizes-take n ls)

pub sizes-lines : (s : List ℕ) → sizes (map as_is (lines s)) ≤ length s
unfolding sizes lines
sizes-lines [] = zero-le
sizes-lines (b ∷ s) = go (eqb b 10) (is_dropped b s) (lines s) (sizes-lines s)
  where
    go : (x y : Bool) (ls : List (List ℕ)) → sizes (map as_is ls) ≤ length s → sizes (map as_is (cond x ([] ∷ ls) (cond y ls (onto b ls)))) ≤ length (b ∷ s)
    go true y ls h = omega arith
    go false true ls h = omega arith
    go false false [] h = omega arith
    go false false (l ∷ ls) h = omega arith

-- ---- the joined text fits its buffer

pub text-fits : (cap : ℕ) (so : So) (ls : List Lined) → length so.text ≤ cap → length (run_from cap so ls).text ≤ cap
text-fits cap =
    run_by_lem cap (λ so ls R. length so.text ≤ cap → length R.text ≤ cap) (λ so ls h. h) (λ so l ls f h. h) (λ so ls h. h) (λ so l ls R p f ih h. ih f)

pub text_le : (cap base : ℕ) (ls : List Lined) → length (run_of cap base ls).text ≤ cap
text_le cap base ls = text-fits cap (start base) ls zero-le

-- ---- the joined text is no longer than the text: each LF pays for a joining space

-- the bytes of lines, each with its LF
unfoldable pub costs : List Lined → ℕ
costs [] = 0
costs (l ∷ ls) = suc (length l.line) + costs ls

-- what is joined, with a space behind it
abbrev spent : So → ℕ
spent so = cond (is_first so) 0 (suc (length so.text))

pub trim_le : (l : List ℕ) → length (trim l) ≤ length l
trim_le l = rw (trim_rest l) (omega (arith, trim_end_le (drop (run is_space l) l), length-drop (run is_space l) l))

spends : (so : So) (l : Lined) → (is_first so ≡ true → so.text ≡ []) → suc (length (after so l).text) ≤ spent so + suc (length l.line)
spends so l e = rw length-append (go (is_first so) e)
  where
    go : (x : Bool) → (x ≡ true → so.text ≡ []) → suc (length so.text + length (spaced x (trim l.line))) ≤ cond x 0 (suc (length so.text)) + suc (length l.line)
    go true e = rw (e refl) (omega (arith, trim_le l.line))
    go false e = omega (arith, trim_le l.line)

still : (so : So) (n : ℕ) → (is_first so ≡ true → so.text ≡ []) → length so.text ≤ (spent so + n) - 1
still so n e = go (is_first so) e
  where
    go : (x : Bool) → (x ≡ true → so.text ≡ []) → length so.text ≤ (cond x 0 (suc (length so.text)) + n) - 1
    go true e = rw (e refl) zero-le
    go false e = omega arith

later : (so : So) (l : Lined) → is_first (after so l) ≡ false
later so l = ne_eqb (suc so.lines) 0 (λ z. absurd (omega arith))

spent_later : (so : So) (l : Lined) → spent (after so l) ≡ suc (length (after so l).text)
spent_later so l = rw (later so l)

not_first : (so : So) (l : Lined) {A : Type 0} → is_first (after so l) ≡ true → A
not_first so l e = contra (is_first (after so l)) e (later so l)

abbrev Grows : So → List Lined → Run → Type 0
Grows so ls R = (is_first so ≡ true → so.text ≡ []) → length R.text ≤ (spent so + costs ls) - 1

pub grows : (cap : ℕ) (so : So) (ls : List Lined) → Grows so ls (run_from cap so ls)
unfolding costs
grows cap =
    run_by_lem cap Grows (λ so ls. still so (costs ls)) (λ so l ls f. still so (costs (l ∷ ls))) (λ so ls. still so (costs ls))
    (λ so l ls R p f ih e. let h = ih (not_first so l) in omega (arith, h, spends so l e, spent_later so l))

pub costs_lines : (s : List ℕ) → costs (map as_is (lines s)) ≤ suc (length s)
unfolding costs lines
costs_lines [] = zero-le
costs_lines (b ∷ s) = go (eqb b 10) (is_dropped b s) (lines s) (costs_lines s)
  where
    go : (x y : Bool) (ls : List (List ℕ)) → costs (map as_is ls) ≤ suc (length s) → costs (map as_is (cond x ([] ∷ ls) (cond y ls (onto b ls)))) ≤ suc (length (b ∷ s))
    go true y ls h = omega arith
    go false true ls h = omega arith
    go false false [] h = omega arith
    go false false (l ∷ ls) h = omega arith

pub text_short : (cap base : ℕ) (t : List ℕ) (at : ℕ) → length (run_at cap base t at).text ≤ length t - at
unfolding run_at
text_short cap base t at = omega (arith, grows cap (start base) (map as_is (lines (drop at t))) (λ e. refl), costs_lines (drop at t), length-drop at t)

-- ---- a buffer of the text's length is never full: 9 can't arise

abbrev Roomy : ℕ → So → List Lined → Run → Type 0
Roomy cap so ls R = (is_first so ≡ true → so.text ≡ []) → (spent so + costs ls) - 1 ≤ cap → eqb (outcome_no R.stop) 9 ≡ false

roomy : (cap : ℕ) (so : So) (ls : List Lined) → Roomy cap so ls (run_from cap so ls)
unfolding costs number_of
roomy cap =
    run_by_lem cap (Roomy cap) (λ so ls e h. refl) (λ so l ls f e h. absurd (omega (arith, f, h, spends so l e))) (λ so ls e h. refl)
    (λ so l ls R p f ih e h. ih (not_first so l) (omega (arith, h, spends so l e, spent_later so l)))

pub never_full : (cap base : ℕ) (t : List ℕ) (at : ℕ) → length t ≤ cap → eqb (outcome_no (run_at cap base t at).stop) 9 ≡ false
unfolding run_at
never_full cap base t at h = roomy cap (start base) (map as_is (lines (drop at t))) (λ e. refl) (omega (arith, costs_lines (drop at t), length-drop at t))

-- ---- columns are true numbers, where a number counts the line four times over, and a brace past all numbers is passed by no line

pub goes_true : (brace : ℕ) (q : Option ℕ) (pad : ℕ) (l : List ℕ) → pad + 4 * length l ≤ most
    → goes_on brace q pad l ≡ (ltb brace (indent_from pad l) && (not (in_quote q) && continues (trim l)))
goes_true brace q pad l h = rw (capped_id (indent_from pad l) low) (ap (λ x. x && (not (in_quote q) && continues (trim l))) (go (leb brace most) refl))
  where
    low : indent_from pad l ≤ most
    low = rw (indent_front pad l) (omega (arith, columns_le pad (take (run is_indent l) l), length-take-le (run is_indent l) l (run_le is_indent l), run_le is_indent l))

    go : (x : Bool) → leb brace most ≡ x → ltb (capped brace) (indent_from pad l) ≡ ltb brace (indent_from pad l)
    go true e = rw (capped_id brace (leb-true brace most e))
    go false e =
        let k = leb-false brace most e in
        rw (capped_top brace (omega arith)) (le-ltb most (indent_from pad l) low ∙ sym (le-ltb brace (indent_from pad l) (omega (arith, low))))

pub far_refuses : (brace : ℕ) (q : Option ℕ) (pad : ℕ) (l : List ℕ) → most ≤ brace → goes_on brace q pad l ≡ false
far_refuses brace q pad l h = rw (capped_top brace h, le-ltb most (capped (indent_from pad l)) (capped_le (indent_from pad l)))
