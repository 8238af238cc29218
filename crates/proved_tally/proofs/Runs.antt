-- The measuring runs of a sheet don't overlap, so they join no line twice.
-- Assumes nothing.
use Rattle.std.specs.Prelude.{Err, Ok, Result}
use mathlib.Core.Path.{◌≡◌, refl, ◌∙◌, ap}
use mathlib.Core.Bool.{Bool, true, false, cond, not, ◌&&◌, ◌||◌}
use mathlib.Core.List.{List, [], ◌∷◌, map}
use Prim.Native.Nat.{ℕ, zero, suc, ◌+◌, ◌-◌, ◌<◌, ◌≤◌, zero-le}
use native.Mathlib.Omega.{arith}
use borrow.Author.Tests.{ltb-true, ltb-false, ne_eqb}
use lib.Dec.{eqb, ltb}
use lib.ListN.{length, take, drop, length-map, length-take}
use lib.Seq.{slice}
use Rattle.base_lists.specs.Lists.{all}
use Rattle.base_lists.proofs.More.{contra}
use Rattle.base_lists.proofs.Scan.{both}
use Rattle.base_bytes.specs.Bytes.{is_indent}
use Rattle.base_refusals.specs.Numbers.{max_text}
use Rattle.base_refusals.specs.declared.Refusal.TheVariants.{NothingThere, NoReading, JoinFull}
use Rattle.text_checks.specs.Check.{check_of}
use Rattle.text_lines.specs.Lines.{lines, line_from, line_at, ranges}
use Rattle.text_lines.specs.Trim.{trim, is_blank_line}
use Rattle.text_lines.proofs.Lines.{line_at_lem, next_beyond}
use Rattle.text_tabs.specs.Columns.{column_after, indent_from, capped}
use Rattle.block_payloads.specs.Payloads.{continues}
use Rattle.run_scanners.specs.Scanners.{in_quote}
use Rattle.block_trimmed_line.specs.Fronts.{begins_indented}
use Rattle.run_joins.specs.Joins.{Lined, So, is_first, goes_on, passes, may_join, after}
use Rattle.run_lines.specs.Runs.{as_is, start, Run, ended, run_from, run_of, run_at, past_lines, sizes}
use Rattle.run_lines.proofs.Bounds.{run_by_lem, lines_le, lookahead_sum, sizes-lines}
use Rattle.read_blocks.specs.Blocks.{Found, nothing, lines_of, lookahead_of, found}
use Rattle.read_lengths.specs.Lengths.{flush_left}
use Rattle.sheet_blocks.specs.Sheets.{Try, tries_at, is_block}
use Rattle.sheet_blocks.proofs.Tries.{found_by, run-found_by, try, tries_end, tries_on, tries_past, some_lines}
use Rattle.sheet_blocks.proofs.Goes.{block_bytes}
use Rattle.sheet_tally.specs.Lists.{total}
use Rattle.sheet_tally.specs.Counts.{tries_by, tries_in, joined_at}
use Rattle.proved_runs.proofs.Joined.{past_lines_lem}
use Rattle.proved_tally.specs.Runs.{LookaheadLe, JoinedLe}
use Rattle.base_refusals.specs.declared.Refusal.{Refusal}

-- ---- the later lines of a run are indented

capped_low : (n : ℕ) → n ≡ 0 → capped n ≡ 0
unfolding capped
capped_low n e = rw e

-- a line beyond a column begins with a space or a tab
indented : (x : ℕ) (l : List ℕ) → ltb x (capped (indent_from 0 l)) ≡ true → begins_indented l ≡ true
unfolding indent_from
indented x [] e = absurd (omega (arith, ltb-true x (capped 0) e, capped_low 0 refl))
indented x (b ∷ s) e = go (is_indent b) refl e
  where
    go : (y : Bool) → is_indent b ≡ y → ltb x (capped (cond y (indent_from (column_after 0 b) s) 0)) ≡ true → is_indent b ≡ true
    go true q z = q
    go false q z = absurd (omega (arith, ltb-true x (capped 0) z, capped_low 0 refl))

joins_indented : (so : So) (l : Lined) → is_first so ≡ false → l.pad ≡ 0 → may_join so l ≡ true → begins_indented l.line ≡ true
unfolding passes
joins_indented so l f p e =
    let z : (is_first so || goes_on so.brace so.quote l.pad l.line) ≡ true = (both (not (is_blank_line l.line)) (is_first so || goes_on so.brace so.quote l.pad l.line) e).1 in
    let y : goes_on so.brace so.quote l.pad l.line ≡ true = rw f at z in
    let x = (both (ltb (capped so.brace) (capped (indent_from l.pad l.line))) (not (in_quote so.quote) && continues (trim l.line)) y).0 in
    indented (capped so.brace) l.line (rw p at x)

-- lines without a pad
unfoldable pub NoPad : List Lined → Type 0
NoPad [] = ◌≡◌ {A = ℕ} 0 0
NoPad (l ∷ ls) = (l.pad ≡ 0) × NoPad ls

no_pad : (ls : List (List ℕ)) → NoPad (map as_is ls)
unfolding NoPad
no_pad [] = refl
no_pad (l ∷ ls) = (refl, no_pad ls)

abbrev line_in : Lined → List ℕ
line_in l = l.line

as_they_are : (ls : List (List ℕ)) → map line_in (map as_is ls) ≡ ls
as_they_are [] = refl
as_they_are (l ∷ ls) = ap (λ (xs : List (List ℕ)). l ∷ xs) (as_they_are ls)

-- behind `so`, which isn't the first, only indented lines are joined
pub record Later (so : So) (ls : List Lined) (R : Run) : Type 0 where
  pub counted : so.lines ≤ R.lines
  pub all_indented : is_first so ≡ false → NoPad ls → all begins_indented (take (R.lines - so.lines) (map line_in ls)) ≡ true

later_none : (so : So) (ls : List Lined) (R : Run) → R.lines ≡ so.lines → Later so ls R
unfolding all
later_none so ls R e = let z : R.lines - so.lines ≡ 0 = omega (arith, e) in record { counted = omega (arith, e); all_indented = λ f p. rw z }

not_first : (so : So) (l : Lined) → is_first (after so l) ≡ false
not_first so l = ne_eqb (suc so.lines) 0 (λ z. absurd (omega (arith, z)))

later_join : (so : So) (l : Lined) (ls : List Lined) (R : Run) → may_join so l ≡ true → Later (after so l) ls R → Later so (l ∷ ls) R
unfolding all NoPad
later_join so l ls R p w =
    let z : R.lines - so.lines ≡ suc (R.lines - suc so.lines) = omega (arith, w.counted) in
    record { counted = omega (arith, w.counted); all_indented = λ f h. rw (z, joins_indented so l f h.0 p) (w.all_indented (not_first so l) h.1) }

-- of a run: all lines behind its first
abbrev Behind : So → List Lined → Run → Type 0
Behind so ls R = so.lines ≡ 0 → NoPad ls → (k : ℕ) → R.lines ≡ suc k → all begins_indented (take k (map line_in (drop 1 ls))) ≡ true

behind_none : (so : So) (ls : List Lined) (R : Run) → R.lines ≡ so.lines → Behind so ls R
behind_none so ls R e z p k q = absurd (omega (arith, e, z, q))

behind_join : (so : So) (l : Lined) (ls : List Lined) (R : Run) → Later (after so l) ls R → Behind so (l ∷ ls) R
unfolding NoPad
behind_join so l ls R w z p k q =
    let y : R.lines - suc so.lines ≡ k = omega (arith, z, q) in
    rw y at (w.all_indented (not_first so l) p.1)

-- the first line is joined, and the rest are later ones
abbrev Both : So → List Lined → Run → Type 0
Both so ls R = Later so ls R × Behind so ls R

both_none : (x : Result (Unit {0}) Refusal) (so : So) (ls : List Lined) → Both so ls (ended x so)
both_none x so ls = (later_none so ls (ended x so) refl, behind_none so ls (ended x so) refl)

both_run : (cap : ℕ) (so : So) (ls : List Lined) → Both so ls (run_from cap so ls)
both_run cap =
    run_by_lem cap Both (both_none (Err NoReading)) (λ so l ls f. both_none (Err JoinFull) so (l ∷ ls)) (both_none (Ok tt))
    (λ so l ls R p f ih. (later_join so l ls R p ih.0, behind_join so l ls R ih.0))

module _ (cap : ℕ) (t : List ℕ) (at : ℕ) where
  run-behind : (k : ℕ) → (run_at cap 0 t at).lines ≡ suc k → all begins_indented (take k (drop 1 (lines (drop at t)))) ≡ true
  unfolding run_at
  run-behind k e = rw (dropped (lines (drop at t))) at ((both_run cap (start 0) (map as_is (lines (drop at t)))).1 refl (no_pad (lines (drop at t))) k e)
    where
      dropped : (ls : List (List ℕ)) → map line_in (drop 1 (map as_is ls)) ≡ drop 1 ls
      dropped [] = refl
      dropped (l ∷ ls) = as_they_are ls

-- ---- weights of lines

module _ (w : List ℕ → ℕ) where
  take-drop : (k : ℕ) (ls : List (List ℕ)) → total w (take k ls) + total w (drop k ls) ≡ total w ls
  unfolding total
  take-drop zero ls = omega arith
  take-drop (suc k) [] = refl
  take-drop (suc k) (l ∷ ls) = omega (arith, take-drop k ls)

  drop_le : (k : ℕ) (ls : List (List ℕ)) → total w (drop k ls) ≤ total w ls
  drop_le k ls = omega (arith, take-drop k ls)

-- what a try at a place weighs: nothing; or, where the line isn't indented, no more than the lines of its run, which are the block's if there is one
data Weighs (w : List ℕ → ℕ) (t : List ℕ) (cap at : ℕ) (f : Found) (v : ℕ) : Type 0 where
  light : v ≡ 0 → Weighs w t cap at f v
  ran : begins_indented (line_at t at) ≡ false → v ≤ total w (take (run_at cap 0 t at).lines (lines (drop at t))) → (is_block f ≡ true → lines_of f ≡ (run_at cap 0 t at).lines) → Weighs w t cap at f v

-- a line that is indented has no block, so the tries of indented lines at the front weigh nothing
module _ (w : List ℕ → ℕ) (t : List ℕ) (cap : ℕ) (v : Try → ℕ) (h : (n at : ℕ) → Weighs w t cap at (flush_left t cap at) (v (try t cap n at))) where
  flush_none : (at : ℕ) → begins_indented (line_at t at) ≡ true → is_block (flush_left t cap at) ≡ false
  unfolding flush_left
  flush_none at e = rw e

  abbrev Bound : ℕ → ℕ → ℕ → Type 0
  Bound n at j = all begins_indented (take j (lines (drop at t))) ≡ true → total v (tries_at t cap n at) ≤ total w (drop j (lines (drop at t)))

  abbrev Inside : ℕ → Type 0
  Inside at = (m b i : ℕ) → at < b → Bound m b i

  module _ (n at : ℕ) (k : at < length t) (ih : Inside at) where
    abbrev first : List ℕ
    first = slice at (line_from t at).to t

    abbrev others : List (List ℕ)
    others = lines (drop (line_from t at).next t)

    is : lines (drop at t) ≡ first ∷ others
    is = line_at_lem t at k

    -- no block: the next line is tried
    on : is_block (flush_left t cap at) ≡ false → total v (tries_at t cap n at) ≡ v (try t cap n at) + total v (tries_at t cap (suc n) (line_from t at).next)
    unfolding total
    on b = rw (tries_on t cap n at k b)

    next : (i : ℕ) → all begins_indented (take i others) ≡ true → total v (tries_at t cap (suc n) (line_from t at).next) ≤ total w (drop i others)
    next i p = ih (suc n) (line_from t at).next i (next_beyond t at k) p

    none_flush : is_block (flush_left t cap at) ≡ false → Weighs w t cap at (flush_left t cap at) (v (try t cap n at)) → total v (tries_at t cap n at) ≤ total w (first ∷ others)
    unfolding total all
    none_flush b (Weighs.light z) = omega (arith, on b, z, next 0 refl)
    none_flush b (Weighs.ran i le _) = go (run_at cap 0 t at).lines refl (rw is at le)
      where
        go : (r : ℕ) → (run_at cap 0 t at).lines ≡ r → v (try t cap n at) ≤ total w (take (run_at cap 0 t at).lines (first ∷ others)) → total v (tries_at t cap n at) ≤ total w (first ∷ others)
        go zero e x = omega (arith, on b, next 0 refl, rw e at x)
        go (suc r) e x = omega (arith, on b, next r (rw is at (run-behind cap t at r e)), take-drop w r others, rw e at x)

    none_indented : (j : ℕ) → is_block (flush_left t cap at) ≡ false → Weighs w t cap at (flush_left t cap at) (v (try t cap n at)) → begins_indented first ≡ true → all begins_indented (take j others) ≡ true
        → total v (tries_at t cap n at) ≤ total w (drop j others)
    none_indented j b (Weighs.light z) y p = omega (arith, on b, z, next j p)
    none_indented j b (Weighs.ran i le _) y p = contra (begins_indented first) y (rw is at i)

    block_flush : is_block (flush_left t cap at) ≡ true → Weighs w t cap at (flush_left t cap at) (v (try t cap n at)) → total v (tries_at t cap n at) ≤ total w (lines (drop at t))
    unfolding total all
    block_flush b x = go x
      where
        count : ℕ
        count = lines_of (flush_left t cap at)

        split : total v (tries_at t cap n at) ≡ v (try t cap n at) + total v (tries_at t cap (n + count) (past_lines count t at))
        split = rw (tries_past t cap n at k b)

        behind_it : total v (tries_at t cap (n + count) (past_lines count t at)) ≤ total w (drop count (lines (drop at t)))
        behind_it = rw (past_lines_lem count t at) at (ih (n + count) (past_lines count t at) 0 (omega (arith, block_bytes t cap at k, some_lines t at cap b)) refl)

        go : Weighs w t cap at (flush_left t cap at) (v (try t cap n at)) → total v (tries_at t cap n at) ≤ total w (lines (drop at t))
        go (Weighs.light z) = omega (arith, split, behind_it, z, drop_le w count (lines (drop at t)))
        go (Weighs.ran i le e) = omega (arith, split, behind_it, ap (λ (k : ℕ). total w (drop k (lines (drop at t)))) (e b), le, take-drop w (run_at cap 0 t at).lines (lines (drop at t)))

    step : (j : ℕ) → Bound n at j
    unfolding all
    step zero p = go (is_block (flush_left t cap at)) refl
      where
        go : (b : Bool) → is_block (flush_left t cap at) ≡ b → total v (tries_at t cap n at) ≤ total w (lines (drop at t))
        go true e = block_flush e (h n at)
        go false e = rw is (none_flush e (h n at))
    step (suc j) p = go (both (begins_indented first) (all begins_indented (take j others)) (rw is at p)) (is_block (flush_left t cap at)) refl
      where
        go : (begins_indented first ≡ true) × (all begins_indented (take j others) ≡ true) → (b : Bool) → is_block (flush_left t cap at) ≡ b → total v (tries_at t cap n at) ≤ total w (drop (suc j) (lines (drop at t)))
        go (y, q) true e = contra (is_block (flush_left t cap at)) e (flush_none at (rw is y))
        go (y, q) false e = rw is (none_indented j e (h n at) y q)

  weighs : (fuel n at j : ℕ) → length t ≤ at + fuel → Bound n at j
  unfolding total
  weighs zero n at j g p = rw (tries_end t cap n at (omega (arith, g))) zero-le
  weighs (suc fuel) n at j g p = go (λ m b i. weighs fuel m b i) (ltb at (length t)) refl
    where
      go : ((m b i : ℕ) → length t ≤ b + fuel → Bound m b i) → (b : Bool) → ltb at (length t) ≡ b → total v (tries_at t cap n at) ≤ total w (drop j (lines (drop at t)))
      go ih true q = step n at (ltb-true at (length t) q) (λ m b i l. ih m b i (omega (arith, g, l))) j p
      go ih false q = rw (tries_end t cap n at (ltb-false at (length t) q)) zero-le

  sheet_weighs : total v (tries_at t cap 1 0) ≤ total w (lines t)
  unfolding all
  sheet_weighs = weighs (length t) 1 0 0 (omega arith) refl

-- ---- what is looked at, and what is joined

module _ (w : List ℕ → ℕ) (t : List ℕ) (cap at : ℕ) (g : Found → ℕ)
    (none : (f : Found) → lookahead_of f ≡ 0 → g f ≡ 0)
    (some : (f : Found) → lookahead_of f ≡ (run_at cap 0 t at).lookahead → g f ≤ total w (take (run_at cap 0 t at).lines (lines (drop at t)))) where
  abbrev P : Found → Type 0
  P f = Weighs w t cap at f (g f)

  found_weighs : begins_indented (line_at t at) ≡ false → P (found t at 0 cap)
  found_weighs e =
      found_by P t at 0 cap (λ q. Weighs.light (none Found.line refl)) (Weighs.light (none (nothing NoReading) refl)) (Weighs.light (none (nothing NothingThere) refl))
      (run-found_by P t at 0 cap (λ r q y. Weighs.ran e (some (Found.run r) (ap (λ (x : Run). x.lookahead) q)) (λ b. ap (λ (x : Run). x.lines) q))
      (λ r q y. Weighs.ran e (some (Found.none y r.text r.lookahead) (ap (λ (x : Run). x.lookahead) q)) (λ b. contra false b refl)))

  try_weighs : P (flush_left t cap at)
  unfolding flush_left
  try_weighs = go (begins_indented (line_at t at)) refl
    where
      go : (b : Bool) → begins_indented (line_at t at) ≡ b → P (cond b (nothing NothingThere) (found t at 0 cap))
      go true e = Weighs.light (none (nothing NothingThere) refl)
      go false e = found_weighs e

-- the bytes of lines
lengths_are : (ls : List (List ℕ)) → sizes (map as_is ls) ≡ total length ls
unfolding sizes total
lengths_are [] = refl
lengths_are (l ∷ ls) = ap (λ k. length l + k) (lengths_are ls)

take_as : (k : ℕ) (ls : List (List ℕ)) → take k (map as_is ls) ≡ map as_is (take k ls)
take_as zero ls = refl
take_as (suc k) [] = refl
take_as (suc k) (l ∷ ls) = ap (λ (xs : List Lined). as_is l ∷ xs) (take_as k ls)

run-sum : (t : List ℕ) (cap at : ℕ) → (run_at cap 0 t at).lookahead ≡ total length (take (run_at cap 0 t at).lines (lines (drop at t)))
unfolding run_at
run-sum t cap at =
    let ls = lines (drop at t) in
    lookahead_sum cap 0 (map as_is ls) ∙ (rw (take_as (run_of cap 0 (map as_is ls)).lines ls) (lengths_are (take (run_of cap 0 (map as_is ls)).lines ls)))

-- each line counts one
ones : (ls : List (List ℕ)) → total (λ l. 1) ls ≡ length ls
unfolding total
ones [] = refl
ones (l ∷ ls) = omega (arith, ones ls)

run_ones : (t : List ℕ) (cap at : ℕ) → (run_at cap 0 t at).lines ≤ total (λ l. 1) (take (run_at cap 0 t at).lines (lines (drop at t)))
unfolding run_at
run_ones t cap at =
    let ls = lines (drop at t) in
    omega (arith, ones (take (run_of cap 0 (map as_is ls)).lines ls), length-take (run_of cap 0 (map as_is ls)).lines ls, lines_le cap 0 (map as_is ls), length-map ls as_is)

joined_weighs : (t : List ℕ) (n at : ℕ) → Weighs (λ l. 1) t max_text at (flush_left t max_text at) (joined_at t (try t max_text n at))
unfolding joined_at
joined_weighs t n at = try_weighs (λ l. 1) t max_text at (λ f. cond (eqb (lookahead_of f) 0) 0 (run_at max_text 0 t at).lines) (λ f e. rw e) (λ f e. low (eqb (lookahead_of f) 0))
  where
    low : (b : Bool) → cond b 0 (run_at max_text 0 t at).lines ≤ total (λ l. 1) (take (run_at max_text 0 t at).lines (lines (drop at t)))
    low true = zero-le
    low false = run_ones t max_text at

-- ======== the laws

by_check : (t : List ℕ) (P : List Try → Type 0) → P [] → P (tries_at t max_text 1 0) → P (tries_in t)
unfolding tries_in tries_at ranges
by_check t P n y = go (check_of t)
  where
    go : (o : Result (Unit {0}) Refusal) → P (tries_by t o)
    go (Err r) = n
    go (Ok _) = y

none_total : {A : Type 0} (f : A → ℕ) (k : ℕ) → total f [] ≤ k
unfolding total
none_total f k = zero-le

pub lookahead_le : LookaheadLe
lookahead_le t = by_check t (λ xs. total (λ x. lookahead_of x.found) xs ≤ length t) (none_total _ (length t)) (omega (arith, seen, sizes-lines t, lengths_are (lines t)))
  where
    seen : total (λ x. lookahead_of x.found) (tries_at t max_text 1 0) ≤ total length (lines t)
    seen = sheet_weighs length t max_text (λ x. lookahead_of x.found) (λ n at. try_weighs length t max_text at lookahead_of (λ f e. e) (λ f e. omega (arith, e, run-sum t max_text at)))

pub joined_le : JoinedLe
joined_le t = by_check t (λ xs. total (joined_at t) xs ≤ length (lines t)) (none_total _ (length (lines t))) (omega (arith, seen, ones (lines t)))
  where
    seen : total (joined_at t) (tries_at t max_text 1 0) ≤ total (λ l. 1) (lines t)
    seen = sheet_weighs (λ l. 1) t max_text (joined_at t) (λ n at. joined_weighs t n at)
