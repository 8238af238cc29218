-- The lines of a measuring run, counted again up to its lookahead: exact, since each line that is joined has a byte.
-- Assumes nothing.
use mathlib.Core.Path.{◌≡◌, refl, sym, ◌∙◌, ap}
use mathlib.Core.Bool.{Bool, true, false, cond, not, ◌&&◌, ◌||◌}
use mathlib.Core.List.{List, [], ◌∷◌, map}
use Prim.Native.Nat.{ℕ, suc, ◌+◌, ◌-◌, ◌<◌, ◌≤◌, zero-le}
use native.Mathlib.Omega.{arith}
use borrow.Author.Tests.{eqb-true, eqb-false, ne_eqb}
use lib.Dec.{eqb}
use lib.ListN.{length, take, drop, length-map, length-drop}
use Rattle.base_lists.proofs.More.{contra}
use Rattle.base_refusals.specs.Numbers.{max_text}
use Rattle.text_lines.specs.Lines.{lines}
use Rattle.text_lines.specs.Trim.{trim, is_blank_line}
use Rattle.run_joins.specs.Joins.{Lined, So, is_first, goes_on, passes, may_join, after}
use Rattle.run_lines.specs.Runs.{as_is, start, Run, run_from, run_of, run_at}
use Rattle.run_lines.proofs.Bounds.{run_by_lem, lines_le, lookahead_sum, sizes-take, sizes-lines, trim_le}
use Rattle.read_blocks.specs.Blocks.{Found, lines_of, lookahead_of}
use Rattle.read_lengths.specs.Lengths.{flush_left}
use Rattle.sheet_blocks.proofs.Tries.{found_by, run-found_by, flush_by}
use Rattle.sheet_tally.specs.Inner.{lines_within}
use Rattle.sheet_tally.proofs.Counting.{within_none, within_some, lines_few}

-- ---- a line that is joined has a byte

some_byte : (so : So) (l : Lined) → may_join so l ≡ true → 0 < length l.line
unfolding passes is_blank_line
some_byte so l e = go (eqb (length (trim l.line)) 0) refl (is_first so || goes_on so.brace so.quote l.pad l.line) e
  where
    go : (b : Bool) → eqb (length (trim l.line)) 0 ≡ b → (y : Bool) → (not b && y) ≡ true → 0 < length l.line
    go true q y z = contra false z refl
    go false q y z = omega (arith, trim_le l.line, eqb-false (length (trim l.line)) 0 q)

-- lines that are counted as they stand
unfoldable Plain : List Lined → Type 0
Plain [] = ◌≡◌ {A = ℕ} 0 0
Plain (l ∷ ls) = (l.size ≡ length l.line) × Plain ls

abbrev line_in : Lined → List ℕ
line_in l = l.line

plain : (ls : List (List ℕ)) → Plain (map as_is ls)
unfolding Plain
plain [] = refl
plain (l ∷ ls) = (refl, plain ls)

as_they_are : (ls : List (List ℕ)) → map line_in (map as_is ls) ≡ ls
as_they_are [] = refl
as_they_are (l ∷ ls) = ap (λ (xs : List (List ℕ)). l ∷ xs) (as_they_are ls)

-- ---- behind `so`

pub record Again (so : So) (ls : List Lined) (R : Run) : Type 0 where
  pub ahead : so.lookahead ≤ R.lookahead
  pub counted : so.lines ≤ R.lines
  pub is : lines_within (map line_in ls) (R.lookahead - so.lookahead) ≡ R.lines - so.lines

ends-here : (so : So) (ls : List Lined) (R : Run) → R.lookahead ≡ so.lookahead → R.lines ≡ so.lines → Again so ls R
ends-here so ls R e f =
    let z : R.lookahead - so.lookahead ≡ 0 = omega (arith, e) in
    let y : R.lines - so.lines ≡ 0 = omega (arith, f) in
    record { ahead = omega (arith, e); counted = omega (arith, f); is = rw (z, y) (within_none (map line_in ls)) }

goes_on_lem : (so : So) (l : Lined) (ls : List Lined) (R : Run) → may_join so l ≡ true → l.size ≡ length l.line → Again (after so l) ls R → Again so (l ∷ ls) R
goes_on_lem so l ls R p s w =
    record {
      ahead = omega (arith, w.ahead);
      counted = omega (arith, w.counted);
      is = within_some l.line (map line_in ls) (R.lookahead - so.lookahead) (λ z. absurd (omega (arith, z, some_byte so l p, s, w.ahead))) ∙ rest;
    }
  where
    rest : suc (lines_within (map line_in ls) ((R.lookahead - so.lookahead) - length l.line)) ≡ R.lines - so.lines
    rest =
        let z : (R.lookahead - so.lookahead) - length l.line ≡ R.lookahead - (so.lookahead + l.size) = omega (arith, s, w.ahead) in
        rw z (omega (arith, w.is, w.counted))

again : (cap : ℕ) (so : So) (ls : List Lined) → Plain ls → Again so ls (run_from cap so ls)
unfolding Plain
again cap =
    run_by_lem cap (λ so ls R. Plain ls → Again so ls R) (λ so ls h. ends-here so ls _ refl refl) (λ so l ls f h. ends-here so (l ∷ ls) _ refl refl) (λ so ls h. ends-here so ls _ refl refl)
    (λ so l ls R p f ih h. goes_on_lem so l ls R p h.0 (ih h.1))

-- ---- the run of a sheet's line

module _ (cap : ℕ) (t : List ℕ) (at : ℕ) where
  run_again : lines_within (lines (drop at t)) (run_at cap 0 t at).lookahead ≡ (run_at cap 0 t at).lines
  unfolding run_at
  run_again =
      let z : (run_at cap 0 t at).lookahead - 0 ≡ (run_at cap 0 t at).lookahead = omega arith in
      let y : (run_at cap 0 t at).lines - 0 ≡ (run_at cap 0 t at).lines = omega arith in
      rw (as_they_are (lines (drop at t)), z, y) at (again cap (start 0) (map as_is (lines (drop at t))) (plain (lines (drop at t)))).is

  abbrev Counted : Found → Type 0
  Counted f = lines_within (lines (drop at t)) (lookahead_of f) ≡ cond (eqb (lookahead_of f) 0) 0 (run_at cap 0 t at).lines

  nothing-counted : lines_within (lines (drop at t)) 0 ≡ 0
  nothing-counted = within_none (lines (drop at t))

  run-counted : lines_within (lines (drop at t)) (run_at cap 0 t at).lookahead ≡ cond (eqb (run_at cap 0 t at).lookahead 0) 0 (run_at cap 0 t at).lines
  run-counted = go (eqb (run_at cap 0 t at).lookahead 0) refl
    where
      go : (b : Bool) → eqb (run_at cap 0 t at).lookahead 0 ≡ b → lines_within (lines (drop at t)) (run_at cap 0 t at).lookahead ≡ cond b 0 (run_at cap 0 t at).lines
      go true e = rw (eqb-true (run_at cap 0 t at).lookahead 0 e) nothing-counted
      go false e = run_again

  pub joined_again : Counted (flush_left t cap at)
  joined_again =
      flush_by Counted t at cap nothing-counted
      (found_by Counted t at 0 cap (λ g. nothing-counted) nothing-counted nothing-counted (run-found_by Counted t at 0 cap (λ r e g. rw e run-counted) (λ r e q. rw e run-counted)))

  -- ---- what a try has no more of than the text has bytes

  look_short : (run_at cap 0 t at).lookahead ≤ length t
  unfolding run_at
  look_short =
      let ls = map as_is (lines (drop at t)) in
      omega (arith, lookahead_sum cap 0 ls, sizes-take (run_of cap 0 ls).lines ls, sizes-lines (drop at t), length-drop at t)

  pub look_le : lookahead_of (flush_left t cap at) ≤ length t
  look_le = flush_by Short t at cap zero-le (found_by Short t at 0 cap (λ g. zero-le) zero-le zero-le (run-found_by Short t at 0 cap (λ r e g. rw e look_short) (λ r e q. rw e look_short)))
    where
      Short : Found → Type 0
      Short f = lookahead_of f ≤ length t

  lines_short : (run_at cap 0 t at).lines ≤ length t
  unfolding run_at
  lines_short = omega (arith, lines_le cap 0 (map as_is (lines (drop at t))), length-map (lines (drop at t)) as_is, lines_few (drop at t), length-drop at t)

  pub block_le : at < length t → lines_of (flush_left t cap at) ≤ length t
  block_le h = flush_by Short t at cap zero-le (found_by Short t at 0 cap (λ g. omega arith) zero-le zero-le (run-found_by Short t at 0 cap (λ r e g. rw e lines_short) (λ r e q. zero-le)))
    where
      Short : Found → Type 0
      Short f = lines_of f ≤ length t
