-- The loop over the lines of a sheet: what is counted so far is of the tries gone past.
-- Assumes nothing.
use mathlib.Core.Path.{◌≡◌, refl, sym, ◌∙◌, ap}
use mathlib.Core.Bool.{Bool, true, false, not}
use mathlib.Core.List.{List, [], ◌∷◌, ◌++◌, append-nil, append_assoc}
use Prim.Native.Nat.{ℕ, suc, ◌+◌, ◌-◌, ◌*◌, ◌<◌, ◌≤◌}
use native.Mathlib.Nat.{add-zero}
use native.Mathlib.Omega.{arith}
use borrow.Author.Tests.{eq-eqb, ne_eqb}
use lib.Dec.{eqb}
use lib.ListN.{length, take, drop}
use lib.Seq.{slice, take-append_seam}
use Rattle.base_refusals.specs.Numbers.{max_text}
use Rattle.base_refusals.specs.declared.Refusal.TheVariants.{NothingThere}
use Rattle.text_lines.specs.Lines.{lines, line_from}
use Rattle.text_lines.specs.declared.LineEnd.{LineEnd}
use Rattle.text_lines.specs.declared.Range.{Range}
use Rattle.text_lines.proofs.Lines.{next_beyond}
use Rattle.set_table.specs.Types.{two}
use Rattle.run_lines.specs.Runs.{past_lines}
use Rattle.read_blocks.specs.Blocks.{Found, nothing, lines_of, lookahead_of, joined_in, join_holds, block_of, found, sized}
use Rattle.read_blocks.specs.declared.Block.{Block}
use Rattle.read_blocks.proofs.Finds.{none_holds, sized_is}
use Rattle.read_lengths.specs.Lengths.{flush_left}
use Rattle.sheet_blocks.specs.Sheets.{Try, may_open, tries_from, tries_at, is_block, join_behind, only_blocks}
use Rattle.sheet_blocks.proofs.Tries.{try, prose, flush, block_counted, some_lines, holds_long, tries_end, tries_on, tries_past}
use Rattle.sheet_blocks.proofs.Goes.{block_bytes, join_append}
use Rattle.sheet_blocks.proofs.Rooms.{from_same}
use Rattle.sheet_verdicts.specs.Verdicts.{block_verdict, verdict_at}
use Rattle.sheet_totals.specs.declared.Totals.{Totals}
use Rattle.sheet_tally.specs.Lists.{total, greatest_of, keep}
use Rattle.sheet_tally.specs.Counts.{blocks_by, joined_at}
use Rattle.sheet_tally.specs.Inner.{lines_within, Low, Lows, line_most, max_count, with_run, with_tried, add_at, sheet_numbers}
use Rattle.sheet_tally.proofs.Lows.{low_start, low_more}
use Rattle.sheet_tally.proofs.Steps.{step_none, stepped}
use Rattle.sheet_tally.proofs.Runs.{joined_again, look_le, block_le}

-- ---- with a join buffer of 65,535 bytes or more the same is found

abbrev first_found : List Try → Found
first_found [] = nothing NothingThere
first_found (x ∷ xs) = x.found

abbrev alone : ℕ → List Range
alone at = record { from = at; to = at } ∷ []

first_is : (t : List ℕ) (cap at : ℕ) → first_found (tries_from t cap 0 0 (alone at)) ≡ flush_left t cap at
unfolding tries_from
first_is t cap at = refl

pub same-found : (t : List ℕ) (cap at : ℕ) → length t ≤ max_text → max_text ≤ cap → flush_left t cap at ≡ flush_left t max_text at
same-found t cap at h k = sym (first_is t cap at) ∙ ap first_found (sym (from_same t cap (omega (arith, h, k)) 0 0 (alone at)) ∙ from_same t max_text h 0 0 (alone at)) ∙ first_is t max_text at

-- ---- nothing is counted yet

none_counted : (t : List ℕ) → (1 ∷ 0 ∷ 0 ∷ 0 ∷ 0 ∷ 0 ∷ 0 ∷ 0 ∷ 0 ∷ 0 ∷ 0 ∷ 0 ∷ 0 ∷ []) ≡ sheet_numbers t []
unfolding sheet_numbers blocks_by only_blocks keep total greatest_of
none_counted t = refl

run_none : (t : List ℕ) (xs : List Try) → with_run 0 0 (sheet_numbers t xs) ≡ sheet_numbers t xs
unfolding with_run add_at sheet_numbers
run_none t xs = rw (add-zero (total (joined_at t) xs), add-zero (total (λ y. lookahead_of y.found) xs))

prose_joined : (t : List ℕ) (x : Try) → x.found ≡ nothing NothingThere → joined_at t x ≡ 0
unfolding joined_at
prose_joined t x e = rw e

-- a line with nothing adds nothing
prose_step : (t : List ℕ) (xs : List Try) (x : Try) → x.found ≡ nothing NothingThere → sheet_numbers t xs ≡ sheet_numbers t (xs ++ (x ∷ []))
prose_step t xs x e = sym (run_none t xs) ∙ (rw (prose_joined t x e, ap lookahead_of e) at (step_none t xs x (ap is_block e)))

-- what was read there is counted by its verdict; the joined bytes stand at the front of the join buffer
read_step : (t : List ℕ) (xs : List Try) (x : Try) (join : List ℕ) → x.found ≡ flush_left t max_text x.at
    → with_tried (lines_within (lines (drop x.at t)) (block_of t x.at x.found).lookahead) (block_of t x.at x.found)
    (block_verdict (two t (slice 0 (block_of t x.at x.found).joined (join_holds join x.found))) (block_of t x.at x.found).set (block_of t x.at x.found).outcome) (sheet_numbers t xs)
    ≡ sheet_numbers t (xs ++ (x ∷ []))
unfolding block_of join_holds joined_at verdict_at
read_step t xs x join e =
    rw (again, take-append_seam (joined_in x.found) (drop (length (joined_in x.found)) join)) (stepped t xs x (rw e (block_counted t x.at max_text)))
  where
    again : lines_within (lines (drop x.at t)) (lookahead_of x.found) ≡ joined_at t x
    again = rw e (joined_again max_text t x.at)

pub record Tallies (t join₀ join : List ℕ) (at : ℕ) (ns : List ℕ) : Type 0 where
  pub past : List Try
  pub line : ℕ
  pub fits : length t ≤ max_text
  pub wide : max_text ≤ length join₀
  pub same : length join ≡ length join₀
  pub joins : join ≡ join_behind join₀ past
  pub low : Low (at * line_most + 1) ns
  pub counts : ns ≡ sheet_numbers t past
  pub rest : past ++ tries_at t max_text line at ≡ tries_at t max_text 1 0

pub tallies_start : (t join : List ℕ) {r : Totals} → length t ≤ max_text → max_text ≤ length join
    → r ≡ record { numbers = 1 ∷ 0 ∷ 0 ∷ 0 ∷ 0 ∷ 0 ∷ 0 ∷ 0 ∷ 0 ∷ 0 ∷ 0 ∷ 0 ∷ 0 ∷ [] } → Tallies t join join 0 r.numbers
unfolding join_behind
tallies_start t join h k e =
    record { past = []; line = 1; fits = h; wide = k; same = refl; joins = refl; low = rw e low_start; counts = rw e (none_counted t); rest = refl }

module _ {t join₀ join : List ℕ} {at : ℕ} {ns : List ℕ} (inv : Tallies t join₀ join at ns) where
  pub tallies_end : length t ≤ at → (ns ≡ sheet_numbers t (tries_at t max_text 1 0)) × (join ≡ join_behind join₀ (tries_at t max_text 1 0))
  tallies_end h =
      let z : inv.past ≡ tries_at t max_text 1 0 = sym (append-nil inv.past) ∙ (rw (tries_end t max_text inv.line at h) at inv.rest) in
      (inv.counts ∙ ap (sheet_numbers t) z, inv.joins ∙ ap (join_behind join₀) z)

  module _ (h : at < length t) where
    abbrev f : Found
    f = flush_left t max_text at

    abbrev here : Try
    here = try t max_text inv.line at

    pub low_here : Low max_count ns
    low_here = low_more inv.low max_count (omega (arith, h, inv.fits))

    -- the try is gone past
    onward : {join' ms : List ℕ} (line' : ℕ) {at' : ℕ} → join' ≡ join_holds join f → ms ≡ sheet_numbers t (inv.past ++ (here ∷ [])) → Low (at' * line_most + 1) ms
        → tries_at t max_text inv.line at ≡ here ∷ tries_at t max_text line' at' → Tallies t join₀ join' at' ms
    unfolding join_behind
    onward {join'} {ms} line' {at'} j c l r =
        record {
          past = inv.past ++ (here ∷ []);
          line = line';
          fits = inv.fits;
          wide = inv.wide;
          same = ap length (j ∙ ap (join_holds join) (sym (same-found t (length join) at inv.fits (omega (arith, inv.wide, inv.same))))) ∙ holds_long t at join ∙ inv.same;
          joins = j ∙ ap (λ b. join_holds b f) inv.joins ∙ sym (join_append join₀ inv.past (here ∷ []));
          low = l;
          counts = c;
          rest = append_assoc inv.past (here ∷ []) (tries_at t max_text line' at') ∙ ap (λ xs. inv.past ++ xs) (sym r) ∙ inv.rest;
        }

    pub tallies_less : {l : LineEnd} → l ≡ line_from t at → length t - l.next < length t - at
    tallies_less e = rw e (omega (arith, h, next_beyond t at h))

    -- a line that can't open a block
    pub tallies_prose : {l : LineEnd} → l ≡ line_from t at → may_open (drop at t) ≡ false → Tallies t join₀ join l.next ns
    tallies_prose e m =
        rw e (onward (suc inv.line) (rw is (none_holds NothingThere join)) (inv.counts ∙ nothing_more) (low_more inv.low ((line_from t at).next * line_most + 1) (omega (arith, next_beyond t at h))) (tries_on t max_text inv.line at h (ap is_block is)))
      where
        is : f ≡ nothing NothingThere
        is = prose t at h max_text m

        nothing_more : sheet_numbers t inv.past ≡ sheet_numbers t (inv.past ++ (here ∷ []))
        nothing_more = prose_step t inv.past here is

    -- a line that was read
    module _ (m : may_open (drop at t) ≡ true) {b : Block} {join' : List ℕ} (r : b ≡ block_of t at (sized t (found t at 0 (length join)))) (j : join' ≡ join_holds join (sized t (found t at 0 (length join)))) where
      is : sized t (found t at 0 (length join)) ≡ f
      is = sized_is t (found t at 0 (length join)) inv.fits ∙ sym (flush t at h (length join) m) ∙ same-found t (length join) at inv.fits (omega (arith, inv.wide, inv.same))

      read_is : b ≡ block_of t at f
      read_is = r ∙ ap (block_of t at) is

      joins_is : join' ≡ join_holds join f
      joins_is = j ∙ ap (join_holds join) is

      pub read_short : (b.lookahead ≤ max_text) × (b.lines ≤ max_text)
      unfolding block_of
      read_short = rw read_is (omega (arith, look_le max_text t at, inv.fits), omega (arith, block_le max_text t at h, inv.fits))

      module _ {s : Totals} (c : s ≡ record { numbers = with_tried (lines_within (lines (drop at t)) b.lookahead) b (block_verdict (two t (slice 0 b.joined join')) b.set b.outcome) ns }) (l : Lows line_most ns s.numbers) where
        counted_is : s.numbers ≡ sheet_numbers t (inv.past ++ (here ∷ []))
        counted_is = ap (λ (x : Totals). x.numbers) c ∙ rw read_is (rw joins_is (rw inv.counts (read_step t inv.past here join refl)))

        raised : Low (suc at * line_most + 1) s.numbers
        raised = low_more (l (at * line_most + 1) inv.low) (suc at * line_most + 1) (omega arith)

        pub tallies_none : {e : LineEnd} → e ≡ line_from t at → b.lines ≡ 0 → Tallies t join₀ join' e.next s.numbers
        unfolding block_of
        tallies_none e n =
            rw e (onward (suc inv.line) joins_is counted_is (low_more raised ((line_from t at).next * line_most + 1) (omega (arith, next_beyond t at h))) (tries_on t max_text inv.line at h (block_counted t at max_text ∙ ap not (eq-eqb (lines_of f) 0 (rw read_is at n)))))

        module _ (n : b.lines ≡ 0 → ⊥) where
          some : is_block f ≡ true
          unfolding block_of
          some = block_counted t at max_text ∙ ap not (ne_eqb (lines_of f) 0 (λ z. n (rw read_is z)))

          next_is : b.next ≡ past_lines (lines_of f) t at
          unfolding block_of
          next_is = rw read_is

          beyond : at < b.next
          beyond = rw next_is (omega (arith, block_bytes t max_text at h, some_lines t at max_text some))

          pub tallies_on : length t - b.next < length t - at
          tallies_on = omega (arith, h, beyond)

          pub tallies_block : Tallies t join₀ join' b.next s.numbers
          tallies_block = rw next_is (onward (inv.line + lines_of f) joins_is counted_is (low_more raised (past_lines (lines_of f) t at * line_most + 1) (omega (arith, rw next_is at beyond))) (tries_past t max_text inv.line at h some))
