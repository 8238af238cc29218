-- The text of a run is the trimmed lines joined by one space, and its lookahead the sum of their untrimmed lengths: as they stand, and from padded copies.
-- Assumes nothing.
use Rattle.std.specs.Prelude.{Err, None, Ok, Option, Result, Some}
use mathlib.Core.Path.{◌≡◌, refl, sym, ◌∙◌, ap}
use mathlib.Core.Bool.{Bool, true, false, cond}
use mathlib.Core.List.{List, [], ◌∷◌, ◌++◌, map, append-nil, append_assoc}
use Prim.Native.Nat.{ℕ, zero, suc, ◌+◌, ◌-◌, ◌≤◌, zero-le}
use native.Mathlib.Nat.{add-zero}
use native.Mathlib.Omega.{arith}
use borrow.Author.Tests.{ltb-true, ltb-false, ne_eqb}
use lib.Dec.{ltb}
use lib.ListN.{length, take, drop}
use lib.Seq.{drop-nil}
use Rattle.base_bytes.specs.Bytes.{is_space}
use Rattle.base_refusals.specs.declared.Refusal.TheVariants.{NoReading, JoinFull}
use Rattle.block_payloads.specs.Payloads.{opens}
use Rattle.text_checks.specs.Check.{check_of}
use Rattle.text_lines.specs.Trim.{trim, trim_start}
use Rattle.text_lines.specs.Lines.{lines, line_from, line_of}
use Rattle.text_lines.proofs.Lines.{to_from, to_next, line_at_lem, lines_end}
use Rattle.text_tabs.specs.Columns.{indent_columns}
use Rattle.run_lines.specs.Runs.{as_is, start, Run, ended, run_from, run_of, run_at, sizes, past_lines}
use Rattle.run_lines.proofs.Bounds.{run_by_lem}
use Rattle.run_joins.specs.Joins.{Lined, So, is_first, added, after}
use Rattle.run_spots.specs.declared.Spot.{Spot}
use Rattle.run_spots.specs.Spots.{is_stray, spot_after, opens_comment}
use Rattle.run_refused.specs.declared.RunReply.TheVariants.{No}
use Rattle.run_refused.specs.Refused.{Stretch, onto_stretch, walk_line, On, halts, padded_line, entered_at, on_after, behind_line, walk_from, on_first, RunTold, unjoined, found_in, comment_from, refused_of, refused_by, refused_run}
use Rattle.run_refused.specs.Inner.{lines_taken}
use Rattle.proved_runs.specs.Lookaheads.{each_spaced, one_spaced, untrimmed, JoinedFirst, RunJoins, RefusedJoins, RefusedRunJoins}
use Rattle.proved_runs.proofs.Texts.{line_start}
use Rattle.base_refusals.specs.declared.Refusal.{Refusal}
use Rattle.text_lines.specs.declared.Range.{Range}

-- ---- a run over any lines

abbrev bytes_of : List Lined → List (List ℕ)
bytes_of ls = map (λ l. l.line) ls

-- joined, behind what is there already or at the front
abbrev joined_to : Bool → List (List ℕ) → List ℕ
joined_to first ls = cond first (one_spaced ls) (each_spaced ls)

-- behind `so`, the run R joined n lines more
record Took (so : So) (ls : List Lined) (R : Run) : Type 0 where
  n : ℕ
  within : n ≤ length ls
  counted : R.lines ≡ so.lines + n
  text : R.text ≡ so.text ++ joined_to (is_first so) (take n (bytes_of ls))
  ahead : R.lookahead ≡ so.lookahead + sizes (take n ls)

joined_none : (first : Bool) → joined_to first [] ≡ []
unfolding one_spaced each_spaced
joined_none true = refl
joined_none false = refl

none : (x : Result (Unit {0}) Refusal) (so : So) (ls : List Lined) → Took so ls (ended x so)
unfolding sizes
none x so ls =
    record {
      n = 0;
      within = zero-le;
      counted = sym (add-zero so.lines);
      text = rw (joined_none (is_first so)) (sym (append-nil so.text));
      ahead = sym (add-zero so.lookahead);
    }

one_more : (first : Bool) (l : List ℕ) (ls : List (List ℕ)) → (added first l ++ each_spaced ls) ≡ joined_to first (l ∷ ls)
unfolding one_spaced each_spaced
one_more true l ls = refl
one_more false l ls = refl

later : (so : So) (l : Lined) → is_first (after so l) ≡ false
later so l = ne_eqb (suc so.lines) 0 (λ z. absurd (omega arith))

took_more : (so : So) (l : Lined) (ls : List Lined) (R : Run) → Took (after so l) ls R → Took so (l ∷ ls) R
unfolding sizes
took_more so l ls R w =
    record {
      n = suc w.n;
      within = omega (arith, w.within);
      counted = omega (arith, w.counted);
      text =
          w.text ∙ ap (λ x. (so.text ++ added (is_first so) l.line) ++ joined_to x (take w.n (bytes_of ls))) (later so l)
          ∙ append_assoc so.text (added (is_first so) l.line) (each_spaced (take w.n (bytes_of ls)))
          ∙ ap (λ x. so.text ++ x) (one_more (is_first so) l.line (take w.n (bytes_of ls)));
      ahead = omega (arith, w.ahead);
    }

took : (cap : ℕ) (so : So) (ls : List Lined) → Took so ls (run_from cap so ls)
took cap = run_by_lem cap Took (none (Err NoReading)) (λ so l ls h. none (Err JoinFull) so (l ∷ ls)) (none (Ok tt)) (λ so l ls R p h w. took_more so l ls R w)

-- ---- lines with pads that are copies of the first of some lines

unfoldable CopiesOf : List (List ℕ) → List Lined → Type 0
CopiesOf ls [] = ◌≡◌ {A = ℕ} 0 0
CopiesOf [] (p ∷ ps) = ⊥
CopiesOf (l ∷ ls) (p ∷ ps) = ((trim p.line ≡ trim l) × (p.size ≡ length l)) × CopiesOf ls ps

copies_within : (ls : List (List ℕ)) (ps : List Lined) → CopiesOf ls ps → length ps ≤ length ls
unfolding CopiesOf
copies_within ls [] h = zero-le
copies_within [] (p ∷ ps) h = absurd h
copies_within (l ∷ ls) (p ∷ ps) h = omega (arith, copies_within ls ps h.1)

copies_each : (n : ℕ) (ls : List (List ℕ)) (ps : List Lined) → CopiesOf ls ps → n ≤ length ps → each_spaced (take n (bytes_of ps)) ≡ each_spaced (take n ls)
unfolding CopiesOf each_spaced
copies_each zero ls ps h k = refl
copies_each (suc n) ls [] h k = absurd (omega arith)
copies_each (suc n) [] (p ∷ ps) h k = absurd h
copies_each (suc n) (l ∷ ls) (p ∷ ps) h k = rw (h.0.0, copies_each n ls ps h.1 (omega (arith, k)))

copies_text : (n : ℕ) (ls : List (List ℕ)) (ps : List Lined) → CopiesOf ls ps → n ≤ length ps → one_spaced (take n (bytes_of ps)) ≡ one_spaced (take n ls)
unfolding CopiesOf one_spaced
copies_text zero ls ps h k = refl
copies_text (suc n) ls [] h k = absurd (omega arith)
copies_text (suc n) [] (p ∷ ps) h k = absurd h
copies_text (suc n) (l ∷ ls) (p ∷ ps) h k = rw (h.0.0, copies_each n ls ps h.1 (omega (arith, k)))

copies_sum : (n : ℕ) (ls : List (List ℕ)) (ps : List Lined) → CopiesOf ls ps → n ≤ length ps → sizes (take n ps) ≡ untrimmed (take n ls)
unfolding CopiesOf sizes untrimmed
copies_sum zero ls ps h k = refl
copies_sum (suc n) ls [] h k = absurd (omega arith)
copies_sum (suc n) [] (p ∷ ps) h k = absurd h
copies_sum (suc n) (l ∷ ls) (p ∷ ps) h k = rw (h.0.1, copies_sum n ls ps h.1 (omega (arith, k)))

copies_joined : (cap base : ℕ) (ls : List (List ℕ)) (ps : List Lined) → CopiesOf ls ps
    → JoinedFirst ls (run_of cap base ps).text (run_of cap base ps).lookahead (run_of cap base ps).lines
copies_joined cap base ls ps h =
    let w = took cap (start base) ps in
    let e : w.n ≡ (run_of cap base ps).lines = omega (arith, w.counted) in
    rw (← e) (record {
      within = omega (arith, w.within, copies_within ls ps h);
      spaced = w.text ∙ copies_text w.n ls ps h w.within;
      sum = omega (arith, w.ahead, copies_sum w.n ls ps h w.within);
    })

-- ---- lines as they stand

as_is_lem : (ls : List (List ℕ)) → CopiesOf ls (map as_is ls)
unfolding CopiesOf
as_is_lem [] = refl
as_is_lem (l ∷ ls) = ((refl, refl), as_is_lem ls)

pub run_joins : RunJoins
unfolding run_at
run_joins cap base t at = copies_joined cap base (lines (drop at t)) (map as_is (lines (drop at t))) (as_is_lem (lines (drop at t)))

-- ---- the padded copies of a walk

start_twice : (s : List ℕ) → trim_start (trim_start s) ≡ trim_start s
unfolding trim_start
start_twice [] = refl
start_twice (b ∷ s) = go (is_space b) refl (start_twice s)
  where
    go : (x : Bool) → is_space b ≡ x → trim_start (trim_start s) ≡ trim_start s → trim_start (cond x (trim_start s) (b ∷ s)) ≡ cond x (trim_start s) (b ∷ s)
    go true e h = h
    go false e h = rw e

trim-after : (s : List ℕ) → trim (trim_start s) ≡ trim s
unfolding trim
trim-after s = rw (start_twice s)

none_copies : (ls : List (List ℕ)) → CopiesOf ls []
unfolding CopiesOf
none_copies ls = refl

line_copies : (p : Spot) (s : List ℕ) (K : Spot → Stretch) (ls : List (List ℕ)) → ((v : Spot) → CopiesOf ls (lines_taken (K v))) → CopiesOf ls (lines_taken (walk_line p s K))
unfolding walk_line
line_copies p [] K ls h = h p
line_copies p (b ∷ s) K ls h = go (is_stray p b) (line_copies (spot_after p b) s K ls h)
  where
    go : (x : Bool) → CopiesOf ls (lines_taken (walk_line (spot_after p b) s K)) → CopiesOf ls (lines_taken (cond x Stretch.none (walk_line (spot_after p b) s K)))
    go true q = none_copies ls
    go false q = q

onto_copies : (opener : ℕ) (w : On) (l : List ℕ) (ls : List (List ℕ)) (f : Stretch) → CopiesOf ls (lines_taken f) → CopiesOf (l ∷ ls) (lines_taken (onto_stretch (padded_line opener w l) f))
unfolding CopiesOf
onto_copies opener w l ls Stretch.none h = refl
onto_copies opener w l ls (Stretch.block s ps) h = ((trim-after l, refl), h)

walk_copies : (opener : ℕ) (w : On) (ls : List (List ℕ)) → CopiesOf ls (lines_taken (walk_from opener w ls))
unfolding walk_from
walk_copies opener w [] = none_copies []
walk_copies opener w (l ∷ ls) = go (halts w.first w.brace opener l) (λ v. walk_copies opener v ls)
  where
    K : Spot → Stretch
    K = behind_line (padded_line opener w l) (on_after w l) (λ v. walk_from opener v ls)

    behind : Spot → Stretch
    behind v = cond v.inside (walk_from opener (on_after w l v.brace) ls) (Stretch.block (on_after w l v.brace).shallow [])

    next : ((v : On) → CopiesOf ls (lines_taken (walk_from opener v ls))) → (x : Bool) (v : On) → CopiesOf ls (lines_taken (cond x (walk_from opener v ls) (Stretch.block v.shallow [])))
    next ih true v = ih v
    next ih false v = none_copies ls

    go : (x : Bool) → ((v : On) → CopiesOf ls (lines_taken (walk_from opener v ls))) → CopiesOf (l ∷ ls) (lines_taken (cond x Stretch.none (walk_line (entered_at w.first w.brace l) (trim_start l) K)))
    go true ih = none_copies (l ∷ ls)
    go false ih =
        line_copies (entered_at w.first w.brace l) (trim_start l) K (l ∷ ls)
        (λ v. onto_copies opener w l ls (behind v) (next ih v.inside (on_after w l v.brace)))

-- ---- what `refused_brace_run` tells

abbrev Told : List (List ℕ) → RunTold → Type 0
Told ls r = (n : ℕ) × JoinedFirst ls r.text r.lookahead n

nothing-joined : (ls : List (List ℕ)) → JoinedFirst ls [] 0 0
unfolding one_spaced untrimmed
nothing-joined ls = record { within = zero-le; spaced = refl; sum = refl }

found-joined : (cap : ℕ) (ls : List (List ℕ)) (f : Stretch) → CopiesOf ls (lines_taken f) → Told ls (found_in cap f)
unfolding found_in
found-joined cap ls Stretch.none h = (0, nothing-joined ls)
found-joined cap ls (Stretch.block true ps) h = ((run_of cap 0 ps).lines, copies_joined cap 0 ls ps h)
found-joined cap ls (Stretch.block false ps) h = (0, nothing-joined ls)

pub refused_joins : RefusedJoins
unfolding refused_of
refused_joins cap [] = (0, nothing-joined [])
refused_joins cap (l ∷ ls) = go (opens l) (opens_comment l)
  where
    f : Stretch
    f = walk_from (indent_columns l) (on_first (indent_columns l)) (l ∷ ls)

    go : (x y : Bool) → Told (l ∷ ls) (cond x (cond y (unjoined (comment_from (indent_columns l) 0 false (l ∷ ls))) (found_in cap f)) (unjoined (Ok (No 0))))
    go false y = (0, nothing-joined (l ∷ ls))
    go true true = (0, nothing-joined (l ∷ ls))
    go true false = found-joined cap (l ∷ ls) f (walk_copies (indent_columns l) (on_first (indent_columns l)) (l ∷ ls))

-- the lines from the one on that begins behind n others
pub past_lines_lem : (n : ℕ) (t : List ℕ) (at : ℕ) → lines (drop (past_lines n t at) t) ≡ drop n (lines (drop at t))
unfolding past_lines
past_lines_lem zero t at = refl
past_lines_lem (suc n) t at = past_lines_lem n t (line_from t at).next ∙ go (ltb at (length t)) refl
  where
    go : (x : Bool) → ltb at (length t) ≡ x → drop n (lines (drop (line_from t at).next t)) ≡ drop (suc n) (lines (drop at t))
    go true e = rw (line_at_lem t at (ltb-true at (length t) e))
    go false e =
        let h = ltb-false at (length t) e in
        rw (lines_end t at h, lines_end t (line_from t at).next (omega (arith, h, to_from t at, to_next t at))) (drop-nil n ∙ sym (drop-nil (suc n)))

pub refused_run_joins : RefusedRunJoins
unfolding refused_run
refused_run_joins cap t n = go (check_of t) (line_of n t) refl
  where
    go : (c : Result (Unit {0}) Refusal) (p : Option Range) → line_of n t ≡ p → Told (drop (n - 1) (lines t)) (refused_by cap t c p)
    go (Err r) p e = (0, nothing-joined (drop (n - 1) (lines t)))
    go (Ok _) None e = (0, nothing-joined (drop (n - 1) (lines t)))
    go (Ok tt) (Some r) e =
        let z : lines (drop r.from t) ≡ drop (n - 1) (lines t) = rw (line_start n t r e) (past_lines_lem (n - 1) t 0) in
        rw (← z) (refused_joins cap (lines (drop r.from t)))
