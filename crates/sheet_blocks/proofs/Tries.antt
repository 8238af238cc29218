-- The tries of a sheet step by step: what is found at a line, and what comes behind it.
-- Assumes nothing.
use Rattle.std.specs.Prelude.{Err, Ok, Result}
use mathlib.Core.Path.{◌≡◌, refl, sym, ◌∙◌, ap}
use mathlib.Core.Bool.{Bool, true, false, not, cond, ◌&&◌, ◌||◌}
use mathlib.Core.List.{List, [], ◌∷◌}
use mathlib.Core.Logic.{inl, inr}
use Prim.Native.Nat.{ℕ, zero, suc, ◌+◌, ◌-◌, ◌<◌, ◌≤◌, zero-le}
use native.Mathlib.Nat.{add-zero}
use native.Mathlib.Numerals.{add-one}
use native.Mathlib.Omega.{arith}
use borrow.Author.Tests.{ltb-true, ltb-false, ne_eqb}
use lib.Dec.{eqb, ltb}
use lib.ListN.{length, get_or, drop, drop_of_length-le}
use lib.Seq.{drop-cons}
use Rattle.base_lists.specs.Lists.{all, is_in}
use Rattle.base_lists.proofs.More.{contra, among_not}
use Rattle.base_lists.proofs.Scan.{both}
use Rattle.base_lists.proofs.Steady.{met}
use Rattle.base_lists.proofs.Sets.{over_long}
use types.Run.{OneOf}
use Rattle.base_bytes.specs.Bytes.{is_space, is_indent}
use Rattle.base_refusals.specs.declared.Refusal.{Refusal}
use Rattle.base_refusals.specs.declared.Refusal.TheVariants.{NothingThere, NoReading}
use Rattle.text_lines.specs.Lines.{before_lf, lines, is_dropped, first_of, line_from, ranges_from, line_at}
use Rattle.text_lines.specs.Trim.{trim_start}
use Rattle.text_lines.proofs.First.{first_cons}
use Rattle.text_lines.proofs.Lines.{to_from, to_next, ranges_end, ranges_at}
use Rattle.block_payloads.specs.Payloads.{opens}
use Rattle.block_chain.specs.Chain.{good_line}
use Rattle.block_chain.specs.Computed.{read_blocks, blocks_from}
use Rattle.run_joins.specs.Joins.{Lined, So}
use Rattle.run_lines.specs.Runs as runs
use Rattle.run_lines.proofs.Bounds.{run_by_lem, text_le}
use Rattle.block_trimmed_line.specs.Fronts.{front_of, opens_at, begins_indented}
use Rattle.read_blocks.specs.Blocks.{Found, nothing, closed_run, ended_run, run_found, found, joined_in, lines_of, join_holds}
use Rattle.read_lengths.specs.Lengths.{flush_left}
use Rattle.block_trimmed_line.proofs.Trimmed.{line_none, indent_is}
use Rattle.read_blocks.proofs.Finds.{found_none}
use Rattle.sheet_blocks.specs.Sheets.{may_open, Try, tries_from, tries_at, is_block}

-- ---- each way through the tests of a block

module _ (P : Found → Type 0) (t : List ℕ) (at base cap : ℕ) where
  pub found_by : (good_line t (front_of t at).from (front_of t at).to ≡ true → P Found.line) → P (nothing NoReading) → P (nothing NothingThere) → P (run_found t at base cap) → P (found t at base cap)
  unfolding found
  found_by l n o r = go (opens_at t at) (good_line t (front_of t at).from (front_of t at).to) refl (front_of t at).closes
    where
      go : (o g : Bool) → good_line t (front_of t at).from (front_of t at).to ≡ g → (c : Bool) → P (cond o (cond g Found.line (cond c (nothing NoReading) (run_found t at base cap))) (nothing NothingThere))
      go true true e c = l e
      go true false e true = n
      go true false e false = r
      go false g e c = o

  pub run-found_by : ((r : runs.Run) → r ≡ runs.run_at cap base t at → good_line r.text 0 (length r.text) ≡ true → P (Found.run r))
      → ((r : runs.Run) → r ≡ runs.run_at cap base t at → (q : Refusal) → P (Found.none q r.text r.lookahead)) → P (run_found t at base cap)
  unfolding run_found
  run-found_by y n = go (runs.run_at cap base t at).stop
    where
      r : runs.Run
      r = runs.run_at cap base t at

      closed : (b : Bool) → good_line r.text 0 (length r.text) ≡ b → P (closed_run r b)
      closed true e = y r refl e
      closed false e = n r refl NoReading

      go : (x : Result (Unit {0}) Refusal) → P (ended_run r x)
      go (Ok _) = closed (good_line r.text 0 (length r.text)) refl
      go (Err q) = n r refl q

module _ (P : Found → Type 0) (t : List ℕ) (at cap : ℕ) where
  pub flush_by : P (nothing NothingThere) → P (found t at 0 cap) → P (flush_left t cap at)
  unfolding flush_left
  flush_by n f = go (begins_indented (line_at t at))
    where
      go : (b : Bool) → P (cond b (nothing NothingThere) (found t at 0 cap))
      go true = n
      go false = f

-- ---- a block has a line

-- nothing joined is no good line
abbrev Some : So → List Lined → runs.Run → Type 0
Some so ls R = (so.lines ≡ 0 → so.text ≡ []) → R.lines ≡ 0 → R.text ≡ []

some_text : (cap base : ℕ) (t : List ℕ) (at : ℕ) → (runs.run_at cap base t at).lines ≡ 0 → (runs.run_at cap base t at).text ≡ []
unfolding runs.run_at
some_text cap base t at =
    run_by_lem cap Some (λ so ls h. h) (λ so l ls f h. h) (λ so ls h. h) (λ so l ls R p f ih h. ih (λ e. absurd (omega arith)))
    (runs.start base) _ (λ e. refl)

empty_bad : good_line [] 0 0 ≡ false
unfolding good_line read_blocks blocks_from
empty_bad = refl

abbrev Counted : Found → Type 0
Counted f = is_block f ≡ not (eqb (lines_of f) 0)

counted : (t : List ℕ) (at base cap : ℕ) → Counted (found t at base cap)
counted t at base cap = found_by Counted t at base cap (λ g. refl) refl refl (run-found_by Counted t at base cap more (λ r e q. refl))
  where
    more : (r : runs.Run) → r ≡ runs.run_at cap base t at → good_line r.text 0 (length r.text) ≡ true → Counted (Found.run r)
    more r e g = rw (ne_eqb r.lines 0 (λ z. contra (good_line r.text 0 (length r.text)) g (rw (none z) empty_bad)))
      where
        none : r.lines ≡ 0 → r.text ≡ []
        none z = rw e (some_text cap base t at (rw e at z))

-- whether a block is found is told by its lines
pub block_counted : (t : List ℕ) (at cap : ℕ) → is_block (flush_left t cap at) ≡ not (eqb (lines_of (flush_left t cap at)) 0)
block_counted t at cap = flush_by Counted t at cap refl (counted t at 0 cap)

pub no_lines : (f : Found) → is_block f ≡ false → lines_of f ≡ 0
no_lines Found.line e = contra true refl e
no_lines (Found.run r) e = contra true refl e
no_lines (Found.none q x n) e = refl

pub some_lines : (t : List ℕ) (at cap : ℕ) → is_block (flush_left t cap at) ≡ true → 0 < lines_of (flush_left t cap at)
some_lines t at cap e = go (lines_of (flush_left t cap at)) (sym (block_counted t at cap) ∙ e)
  where
    go : (n : ℕ) → not (eqb n 0) ≡ true → 0 < n
    go zero h = contra false h refl
    go (suc n) h = omega arith

-- ---- what a try leaves in the join buffer

abbrev Fits : ℕ → Found → Type 0
Fits cap f = length (joined_in f) ≤ cap

room : (t : List ℕ) (at cap : ℕ) → Fits cap (flush_left t cap at)
unfolding runs.run_at
room t at cap =
    flush_by (Fits cap) t at cap zero-le
    (found_by (Fits cap) t at 0 cap (λ g. zero-le) zero-le zero-le (run-found_by (Fits cap) t at 0 cap (λ r e g. rw e (text_le cap 0 _)) (λ r e q. rw e (text_le cap 0 _))))

-- it stays as long as it is
pub holds_long : (t : List ℕ) (at : ℕ) (buf : List ℕ) → length (join_holds buf (flush_left t (length buf) at)) ≡ length buf
unfolding join_holds
holds_long t at buf = over_long (joined_in (flush_left t (length buf) at)) buf (room t at (length buf))

-- ---- the first byte of a line

neither : (a b : Bool) → (a || b) ≡ false → (a ≡ false) × (b ≡ false)
neither true b e = contra true refl e
neither false b e = (refl, e)

-- a byte at the front of a line that can't open a block is no whitespace to be trimmed, unless it indents the line
plain : (b : ℕ) → eqb b 10 ≡ false → is_indent b ≡ false → is_in (12 ∷ 13 ∷ 123 ∷ []) b ≡ false → (is_space b ≡ false) × (eqb b 123 ≡ false)
unfolding is_space is_indent is_in
plain b l i m =
    let x = neither (eqb b 32) _ i in
    let y = neither (eqb b 9) _ x.1 in
    let z = neither (eqb b 12) _ m in
    let w = neither (eqb b 13) _ z.1 in
    let v = neither (eqb b 123) _ w.1 in
    (rw (x.0, y.0, l, z.0, w.0), v.0)

-- what `may_open` asks of the byte at the place and of those behind it
abbrev opener : List ℕ → ℕ → Bool
opener s b = is_in (12 ∷ 13 ∷ 123 ∷ []) b && not (is_dropped b s)

module _ (t : List ℕ) (at : ℕ) (h : at < length t) where
  opener_is : opener (drop (suc at) t) (get_or t at 0) ≡ may_open (drop at t)
  unfolding may_open
  opener_is = rw (drop-cons t at 0 h)

  pub opener_yes : OneOf (12 ∷ 123 ∷ []) (get_or t at 0) → true ≡ may_open (drop at t)
  unfolding is_in
  opener_yes k = met (opener (drop (suc at) t)) true (12 ∷ 123 ∷ []) (get_or t at 0) k refl ∙ opener_is

  pub opener_no : (OneOf (12 ∷ 123 ∷ []) (get_or t at 0) → ⊥) → (get_or t at 0 ≡ 13 → ⊥) → false ≡ may_open (drop at t)
  unfolding is_in
  opener_no n m = rw (ne_eqb _ 12 (λ e. n (inl e)), ne_eqb _ 13 m, ne_eqb _ 123 (λ e. n (inr e))) at opener_is

  pub opener_cr : get_or t at 0 ≡ 13 → not (before_lf (drop (at + 1) t)) ≡ may_open (drop at t)
  unfolding is_in
  opener_cr e = rw (add-one at) (rw e at opener_is)

  pub lf_is : not (eqb (get_or t at 0) 10) ≡ not (before_lf (drop at t))
  lf_is = rw (drop-cons t at 0 h)

  -- the line is indented or doesn't open with a brace
  quiet : may_open (drop at t) ≡ false → cond (begins_indented (line_at t at)) false (opens_at t at) ≡ false
  unfolding opens_at trim_start
  quiet m = rw (drop-cons t at 0 h, first_cons) (go (eqb b 10) refl (is_dropped b s) (opener_is ∙ m))
    where
      b : ℕ
      b = get_or t at 0

      s : List ℕ
      s = drop (suc at) t

      front : (l : List ℕ) (x : Bool) → is_indent b ≡ x → eqb b 10 ≡ false → is_in (12 ∷ 13 ∷ 123 ∷ []) b ≡ false → cond (begins_indented (b ∷ l)) false (opens (b ∷ l)) ≡ false
      front l true i e m = rw i
      front l false i e m = let p = plain b e i m in rw (i, p.0) p.1

      go : (x : Bool) → eqb b 10 ≡ x → (y : Bool) → (is_in (12 ∷ 13 ∷ 123 ∷ []) b && not y) ≡ false
          → cond (begins_indented (cond x [] (cond y [] (b ∷ first_of (lines s))))) false (opens (cond x [] (cond y [] (b ∷ first_of (lines s))))) ≡ false
      go true e y m = refl
      go false e true m = refl
      go false e false m = front (first_of (lines s)) (is_indent b) refl e (only (is_in (12 ∷ 13 ∷ 123 ∷ []) b) m)
        where
          only : (a : Bool) → (a && true) ≡ false → a ≡ false
          only true q = q
          only false q = refl

  pub prose : (cap : ℕ) → may_open (drop at t) ≡ false → flush_left t cap at ≡ nothing NothingThere
  unfolding flush_left found
  prose cap m = go _ (begins_indented (line_at t at)) (opens_at t at) (quiet m)
    where
      go : (f : Found) (i o : Bool) → cond i false o ≡ false → cond i (nothing NothingThere) (cond o f (nothing NothingThere)) ≡ nothing NothingThere
      go f true o e = refl
      go f false true e = contra true refl e
      go f false false e = refl

  -- the line isn't indented
  pub flush : (cap : ℕ) → may_open (drop at t) ≡ true → flush_left t cap at ≡ found t at 0 cap
  unfolding flush_left is_indent is_in all
  flush cap m = rw (← indent_is t at h, among_not is_indent (12 ∷ 13 ∷ 123 ∷ []) (get_or t at 0) refl (both _ _ (opener_is ∙ m)).0)

pub opener_none : (t : List ℕ) (at : ℕ) → length t ≤ at → false ≡ may_open (drop at t)
unfolding may_open
opener_none t at h = rw (drop_of_length-le t h)

pub lf_none : (t : List ℕ) (at : ℕ) → length t ≤ at → true ≡ not (before_lf (drop at t))
lf_none t at h = rw (drop_of_length-le t h)

-- behind the text nothing is found
pub none_there : (t : List ℕ) (at base cap : ℕ) → length t ≤ at → found t at base cap ≡ nothing NothingThere
unfolding opens_at trim_start
none_there t at base cap h = found_none t at base cap (rw (line_none t at h))

-- ---- what comes behind a line

pub past_none : (k : ℕ) (t : List ℕ) (at : ℕ) → length t ≤ at → length t ≤ runs.past_lines k t at
unfolding runs.past_lines
past_none zero t at h = h
past_none (suc k) t at h = past_none k t (line_from t at).next (omega (arith, to_from t at, to_next t at))

module _ (t : List ℕ) (cap : ℕ) where
  pub tries_end : (n at : ℕ) → length t ≤ at → tries_at t cap n at ≡ []
  unfolding tries_at tries_from
  tries_end n at h = rw (ranges_end t at h)

  -- k lines are gone past
  past_tries : (k n at : ℕ) → tries_from t cap n k (ranges_from at false at (drop at t)) ≡ tries_at t cap (n + k) (runs.past_lines k t at)
  unfolding tries_at tries_from runs.past_lines
  past_tries zero n at = rw (add-zero n)
  past_tries (suc k) n at = go (ltb at (length t)) refl (past_tries k (suc n) (line_from t at).next)
    where
      go : (x : Bool) → ltb at (length t) ≡ x
          → tries_from t cap (suc n) k (ranges_from (line_from t at).next false (line_from t at).next (drop (line_from t at).next t)) ≡ tries_at t cap (suc n + k) (runs.past_lines k t (line_from t at).next)
          → tries_from t cap n (suc k) (ranges_from at false at (drop at t)) ≡ tries_at t cap (n + suc k) (runs.past_lines (suc k) t at)
      go true x ih = let z : suc n + k ≡ n + suc k = omega arith in rw (ranges_at t at (ltb-true at (length t) x)) (rw z at ih)
      go false x ih = let h = ltb-false at (length t) x in rw (ranges_end t at h) (sym (tries_end (n + suc k) (runs.past_lines (suc k) t at) (past_none (suc k) t at h)))

  -- the try at a line
  abbrev pub try : ℕ → ℕ → Try
  try n at = record { line = n; at = at; found = flush_left t cap at }

  module _ (n at : ℕ) (h : at < length t) where
    tries_at_lem : tries_at t cap n at ≡ try n at ∷ tries_at t cap (suc n + (lines_of (flush_left t cap at) - 1)) (runs.past_lines (lines_of (flush_left t cap at) - 1) t (line_from t at).next)
    unfolding tries_at tries_from
    tries_at_lem = rw (ranges_at t at h) (ap (λ xs. try n at ∷ xs) (past_tries (lines_of (flush_left t cap at) - 1) (suc n) (line_from t at).next))

    pub tries_on : is_block (flush_left t cap at) ≡ false → tries_at t cap n at ≡ try n at ∷ tries_at t cap (suc n) (line_from t at).next
    unfolding runs.past_lines
    tries_on e = rw (no_lines (flush_left t cap at) e, add-zero) at tries_at_lem

    pub tries_past : is_block (flush_left t cap at) ≡ true
        → tries_at t cap n at ≡ try n at ∷ tries_at t cap (n + lines_of (flush_left t cap at)) (runs.past_lines (lines_of (flush_left t cap at)) t at)
    unfolding runs.past_lines
    tries_past e = go (lines_of (flush_left t cap at)) (some_lines t at cap e) tries_at_lem
      where
        go : (k : ℕ) → 0 < k → tries_at t cap n at ≡ try n at ∷ tries_at t cap (suc n + (k - 1)) (runs.past_lines (k - 1) t (line_from t at).next)
            → tries_at t cap n at ≡ try n at ∷ tries_at t cap (n + k) (runs.past_lines k t at)
        go zero l q = absurd (omega arith)
        go (suc k) l q =
            let z : suc n + (suc k - 1) ≡ n + suc k = omega arith in
            let y : suc k - 1 ≡ k = omega arith in
            rw (z, y) at q
