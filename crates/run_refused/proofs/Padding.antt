-- The second walk: the run over the padded lines of a block.
-- Assumes nothing.
use Rattle.std.specs.Prelude.{Err, None, Ok, Result}
use mathlib.Core.Path.{◌≡◌, refl, sym, ◌∙◌, ap}
use mathlib.Core.Bool.{Bool, true, false, cond}
use mathlib.Core.List.{List, [], ◌∷◌}
use Prim.Native.Nat.{ℕ, suc, ◌+◌, ◌-◌, ◌*◌, ◌<◌, ◌≤◌}
use native.Mathlib.Numerals.{add-one}
use native.Mathlib.Omega.{arith}
use borrow.Author.Tests.{leb-true, leb-false}
use lib.Dec.{eqb, leb}
use lib.ListN.{length, take, drop}
use lib.Seq.{length-slice}
use Rattle.base_lists.specs.Lists.{run, over}
use Rattle.base_lists.proofs.More.{contra}
use Rattle.base_lists.proofs.Parts.{slice_part}
use Rattle.base_lists.proofs.Sets.{over_long}
use Rattle.base_bytes.specs.Bytes.{is_space}
use Rattle.base_refusals.specs.Numbers.{max_text}
use Rattle.text_lines.specs.Trim.{trim_start}
use Rattle.text_lines.specs.Lines.{lines, line_from}
use Rattle.text_lines.specs.declared.LineEnd.{LineEnd}
use Rattle.text_lines.proofs.Lines.{lines_end}
use Rattle.text_tabs.proofs.Laws.{indent_le, capped_id}
use Rattle.run_scanners.specs.Scanners.{hold_from, hold_start}
use Rattle.base_refusals.specs.declared.Refusal.TheVariants.{NoReading, JoinFull}
use Rattle.run_joins.specs.declared.State.{State}
use Rattle.run_joins.specs.declared.Effect.{Effect}
use Rattle.run_joins.specs.declared.Effect.TheVariants.{Broken, Full, Go, Closes}
use Rattle.run_lines.specs.Runs.{start, Run, ended, run_from}
use Rattle.run_joins.specs.Joins.{Lined, So, after, join_step, join_after}
use Rattle.run_joins.proofs.Steps.{laid}
use Rattle.run_lines.proofs.Joining.{Shows, Meets, meets, text_front, laid_by}
use Rattle.run_spots.specs.declared.Spot.{Spot}
use Rattle.run_refused.specs.declared.Ran.{Ran}
use Rattle.run_spots.specs.Spots.{is_stray, opens_by, spot_after}
use Rattle.run_refused.specs.Refused.{Stretch, onto_stretch, walk_line, On, halts, pad_of, padded_line, entered_at, on_after, behind_line, walk_from}
use Rattle.run_refused.specs.Inner.{spots_from, walk_at, is_stretch, lines_taken, padded_run, ran_of, max_column}
use Rattle.run_refused.proofs.Leaves.{spot_column}
use Rattle.run_refused.proofs.Walking.{line, line_in, line_first, line_long, line_rest, rest_in, later, on}
use Rattle.base_refusals.specs.declared.Refusal.{Refusal}

-- ---- a block has no stray brace

pub passes_line : (p : Spot) (s : List ℕ) (K : Spot → Stretch) → is_stretch (walk_line p s K) ≡ true → walk_line p s K ≡ K (spots_from p s)
unfolding walk_line spots_from
passes_line p [] K q = refl
passes_line p (b ∷ s) K q = go (is_stray p b) q (passes_line (spot_after p b) s K)
  where
    go : (x : Bool) → is_stretch (cond x Stretch.none (walk_line (spot_after p b) s K)) ≡ true → (is_stretch (walk_line (spot_after p b) s K) ≡ true → walk_line (spot_after p b) s K ≡ K (spots_from (spot_after p b) s))
        → cond x Stretch.none (walk_line (spot_after p b) s K) ≡ K (spots_from (spot_after p b) s)
    go true z h = contra false z refl
    go false z h = h z

onto_is : (l : Lined) (f : Stretch) → is_stretch (onto_stretch l f) ≡ is_stretch f
onto_is l Stretch.none = refl
onto_is l (Stretch.block s ls) = refl

onto-lines : (l : Lined) (f : Stretch) → is_stretch f ≡ true → lines_taken (onto_stretch l f) ≡ l ∷ lines_taken f
onto-lines l Stretch.none q = contra false q refl
onto-lines l (Stretch.block s ls) q = refl

module _ (opener : ℕ) (w : On) (l : List ℕ) (ls : List (List ℕ)) where
  abbrev spot_behind : Spot
  spot_behind = spots_from (entered_at w.first w.brace l) (trim_start l)

  -- what is found behind the line
  abbrev pub found_next : Stretch
  found_next = cond spot_behind.inside (walk_from opener (on_after w l spot_behind.brace) ls) (Stretch.block (on_after w l spot_behind.brace).shallow [])

  pub block_next : is_stretch (walk_from opener w (l ∷ ls)) ≡ true → (is_stretch found_next ≡ true) × (lines_taken (walk_from opener w (l ∷ ls)) ≡ padded_line opener w l ∷ lines_taken found_next)
  unfolding walk_from
  block_next q = go (halts w.first w.brace opener l) q
    where
      K : Spot → Stretch
      K = behind_line (padded_line opener w l) (on_after w l) (λ v. walk_from opener v ls)

      go : (x : Bool) → is_stretch (cond x Stretch.none (walk_line (entered_at w.first w.brace l) (trim_start l) K)) ≡ true
          → (is_stretch found_next ≡ true) × (lines_taken (cond x Stretch.none (walk_line (entered_at w.first w.brace l) (trim_start l) K)) ≡ padded_line opener w l ∷ lines_taken found_next)
      go true z = contra false z refl
      go false z =
          let p = passes_line (entered_at w.first w.brace l) (trim_start l) K z in
          let b : is_stretch found_next ≡ true = sym (onto_is (padded_line opener w l) found_next) ∙ sym (ap is_stretch p) ∙ z in
          (b, ap lines_taken p ∙ onto-lines (padded_line opener w l) found_next b)

-- ---- columns stay small

spots_low : (p : Spot) (s : List ℕ) (k : ℕ) → p.column + 4 * length s ≤ k → p.brace ≤ k → (spots_from p s).brace ≤ k
unfolding spots_from spot_after
spots_low p [] k h q = q
spots_low p (b ∷ s) k h q = spots_low (spot_after p b) s k (omega (arith, spot_column p b)) (go (opens_by p b))
  where
    go : (x : Bool) → cond x p.column p.brace ≤ k
    go true = omega arith
    go false = q

-- ---- the loop

-- before the line that begins at `at`: n lines are joined
pub record Pads (t : List ℕ) (opener : ℕ) (buf₀ : List ℕ) (R : Run) (buf : List ℕ) (st : State) (n lookahead at br : ℕ) : Type 0 where
  pub so : So
  pub sh : Bool
  pub shows : Shows so st
  pub room : length so.text ≤ length buf₀
  pub content : buf ≡ over so.text buf₀
  pub counted : n ≡ so.lines
  pub ahead : lookahead ≡ so.lookahead
  pub few : n ≤ at
  pub short : lookahead ≤ at
  pub low : br ≤ 524280
  pub block : is_stretch (walk_from opener (on n sh br) (lines (drop at t))) ≡ true
  pub rest : run_from (length buf₀) so (lines_taken (walk_from opener (on n sh br) (lines (drop at t)))) ≡ R

pub pads_start : (t : List ℕ) (at opener : ℕ) (buf : List ℕ) {st : State} → st ≡ record { len = 0; brace = 0; base = 0; quote = None; hold = hold_start } → opener ≤ max_column → is_stretch (walk_at opener t at) ≡ true
    → Pads t opener buf (padded_run (length buf) opener t at) buf st 0 0 at opener
unfolding padded_run walk_at hold_from
pads_start t at opener buf e k b =
    rw e
    (record {
      so = start 0;
      sh = false;
      shows = record { len = refl; first = refl; brace = sym (capped_id 0 (omega arith)); base = refl; quote = refl; hold = refl };
      room = omega arith;
      content = refl;
      counted = refl;
      ahead = refl;
      few = omega arith;
      short = omega arith;
      low = omega arith;
      block = b;
      rest = refl;
    })

module _ {t : List ℕ} {opener : ℕ} {buf₀ : List ℕ} {R : Run} {buf : List ℕ} {st : State} {n lookahead at br : ℕ} (inv : Pads t opener buf₀ R buf st n lookahead at br) where
  pub pads_some : at < length t
  unfolding walk_from
  pads_some = go (leb (length t) at) refl
    where
      go : (x : Bool) → leb (length t) at ≡ x → at < length t
      go true q = contra false (rw (lines_end t at (leb-true (length t) at q)) at inv.block) refl
      go false q = leb-false (length t) at q

  pub pads_long : length buf ≡ length buf₀
  pads_long = rw inv.content (over_long inv.so.text buf₀ inv.room)

  module _ {l : LineEnd} (e : l ≡ line_from t at) where
    abbrev pub here : List ℕ
    here = line t at pads_some e

    pub here_in : (at ≤ l.to) × ((l.to ≤ l.next) × ((at < l.next) × ((l.next ≤ length t) × (length here ≡ l.to - at))))
    here_in = let z = line_in t at pads_some e in (z.0, (z.1.0, (z.1.1.0, (z.1.1.1, line_long t at pads_some e))))

    module _ {i : ℕ} (f : i ≡ at + run is_space here) where
      pub from_in : (at ≤ i) × (i ≤ l.to)
      from_in = rest_in t at pads_some e f

      rest_is : take (l.to - i) (drop i t) ≡ trim_start here
      rest_is = sym (slice_part i l.to t) ∙ line_rest t at pads_some e f

      pub rest_long : length (take (l.to - i) (drop i t)) ≡ l.to - i
      rest_long = rw (← slice_part i l.to t) (length-slice i l.to t (omega (arith, here_in)))

      module _ (few : length t ≤ max_text) {p : Spot} (s : p ≡ entered_at (eqb n 0) br here) where
        pub spot_small : p.column ≤ max_column
        spot_small = omega (arith, ap (λ z. z.column) s, indent_le here, here_in)

        abbrev lined : Lined
        lined = padded_line opener (on n inv.sh br) here

        abbrev next_found : Stretch
        next_found = found_next opener (on n inv.sh br) here (lines (drop l.next t))

        next_block : (is_stretch next_found ≡ true) × (lines_taken (walk_from opener (on n inv.sh br) (lines (drop at t))) ≡ lined ∷ lines_taken next_found)
        next_block = rw (line_first t at pads_some e) (block_next opener (on n inv.sh br) here (lines (drop l.next t)) (rw (line_first t at pads_some e) at inv.block))

        whole : run_from (length buf₀) inv.so (lined ∷ lines_taken next_found) ≡ R
        whole = rw next_block.1 at inv.rest

        module _ {pad : ℕ} (d : pad ≡ pad_of (eqb n 0) p.column br opener) {step : Effect} {buf' : List ℕ} {P : Type 0}
            (w : (step ≡ join_step buf st pad (take (l.to - i) (drop i t))) × ((buf' ≡ join_after buf st pad (take (l.to - i) (drop i t))) × P)) where
          pad_is : pad ≡ lined.pad
          pad_is = d ∙ rw s

          step_is : step ≡ join_step buf st lined.pad lined.line
          step_is = w.0 ∙ rw (pad_is, rest_is)

          met : Meets (length buf₀) inv.so lined (lines_taken next_found) step
          met = rw (step_is, ← pads_long) (meets buf inv.shows (text_front buf₀ buf inv.shows inv.content) lined (lines_taken next_found))

          left : buf' ≡ laid step buf (over (after inv.so lined).text buf₀)
          left = laid_by buf₀ buf inv.shows inv.content lined step_is (w.1.0 ∙ rw (pad_is, rest_is))

          pub pads_same : length buf' ≡ length buf₀
          pads_same = rw left (go step met)
            where
              go : (x : Effect) → Meets (length buf₀) inv.so lined (lines_taken next_found) x → length (laid x buf (over (after inv.so lined).text buf₀)) ≡ length buf₀
              go Broken m = pads_long
              go Full m = pads_long
              go (Go v) m = over_long (after inv.so lined).text buf₀ m.1.1
              go (Closes v) m = over_long (after inv.so lined).text buf₀ m.1.1

          abbrev Gives : Result (Unit {0}) Refusal → State → ℕ → ℕ → Ran → Type 0
          Gives x v k a r = r ≡ record { stop = x; len = v.len; lines = k; lookahead = a }

          abbrev Answers : Ran → Type 0
          Answers r = (r ≡ ran_of R) × (buf' ≡ over R.text buf₀)

          stopped : (x : Result (Unit {0}) Refusal) → run_from (length buf₀) inv.so (lined ∷ lines_taken next_found) ≡ ended x inv.so → buf' ≡ buf → {g : Ran} → Gives x st n lookahead g → Answers g
          stopped x m q g = rw (sym whole ∙ m) (g ∙ rw (inv.shows.len, inv.counted, inv.ahead), q ∙ inv.content)

          pub pads_broken : step ≡ Broken → {g : Ran} → Gives (Err NoReading) st n lookahead g → Answers g
          pads_broken q = stopped _ (rw q at met) (rw q at left)

          pub pads_full : step ≡ Full → {g : Ran} → Gives (Err JoinFull) st n lookahead g → Answers g
          pads_full q = stopped _ (rw q at met) (rw q at left)

          module _ {v : State} (j : Shows (after inv.so lined) v × (length (after inv.so lined).text ≤ length buf₀))
              (holds : buf' ≡ over (after inv.so lined).text buf₀) where
            ahead_next : lookahead + (l.to - at) ≡ (after inv.so lined).lookahead
            ahead_next = rw here_in.1.1.1.1 (ap (λ z. z + (l.to - at)) inv.ahead)

            count_next : n + 1 ≡ (after inv.so lined).lines
            count_next = rw (add-one n) (ap suc inv.counted)

            joined : (x : Result (Unit {0}) Refusal) → run_from (length buf₀) inv.so (lined ∷ lines_taken next_found) ≡ ended x (after inv.so lined) → {g : Ran} → Gives x v (n + 1) (lookahead + (l.to - at)) g → Answers g
            joined x m g = rw (sym whole ∙ m) (g ∙ rw (j.0.len, count_next, ahead_next), holds)

          pub pads_closed : {v : State} → step ≡ Closes v → {g : Ran} → Gives (Ok tt) v (n + 1) (lookahead + (l.to - at)) g → Answers g
          pads_closed q = joined (rw q at met).1 (rw q at left) _ (rw q at met).0

          module _ {v : State} (q : step ≡ Go v) {z : Spot} (o : z ≡ spots_from p (take (l.to - i) (drop i t))) where
            spot_is : z ≡ spots_from (entered_at (eqb n 0) br here) (trim_start here)
            spot_is = o ∙ rw (rest_is, s)

            goes : run_from (length buf₀) (after inv.so lined) (lines_taken next_found) ≡ R
            goes = sym (rw q at met).0 ∙ whole

            -- no line is left
            pub pads_last : z.inside ≡ false → {g : Ran} → Gives (Err NoReading) v (n + 1) (lookahead + (l.to - at)) g → Answers g
            unfolding run_from
            pads_last u = joined (rw q at met).1 (rw q at left) _ ((rw q at met).0 ∙ rw (sym (ap (λ y. y.inside) spot_is) ∙ u))

            pub pads_go : z.inside ≡ true → Pads t opener buf₀ R buf' v (n + 1) (lookahead + (l.to - at)) l.next z.brace
            pads_go u =
                record {
                  so = after inv.so lined;
                  sh = (on_after (on n inv.sh br) here z.brace).shallow;
                  shows = (rw q at met).1.0;
                  room = (rw q at met).1.1;
                  content = rw q at left;
                  counted = count_next (rw q at met).1 (rw q at left);
                  ahead = ahead_next (rw q at met).1 (rw q at left);
                  few = omega (arith, inv.few, here_in);
                  short = omega (arith, inv.short, here_in);
                  low = rw o (spots_low p (take (l.to - i) (drop i t)) 524280 (omega (arith, spot_small, rest_long, here_in)) (omega (arith, ap (λ y. y.brace) s, inv.low)));
                  block = rw (add-one n, later n) (rw (← spot_is, u) at next_block.0);
                  rest = rw (add-one n, later n) (rw (← spot_is, u) at goes);
                }
