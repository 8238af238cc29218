-- What is wrong with a line, by each way through the tests.
-- Assumes nothing.
use Rattle.std.specs.Prelude.{Err, Ok, Result}
use mathlib.Core.Path.{◌≡◌, refl, sym, ◌∙◌, ap}
use mathlib.Core.Bool.{Bool, true, false, cond, not, ◌&&◌}
use mathlib.Core.List.{List, [], ◌∷◌}
use Prim.Native.Nat.{ℕ, ◌+◌, ◌-◌, ◌<◌, ◌≤◌}
use native.Mathlib.Omega.{arith}
use borrow.Author.Tests.{eq-eqb, ne_eqb}
use lib.Dec.{eqb}
use lib.ListN.{length, take, drop}
use lib.Seq.{slice, take-append_seam}
use Rattle.base_lists.specs.Lists.{same, over}
use Rattle.base_refusals.specs.Numbers.{max_text}
use Rattle.base_refusals.specs.declared.Refusal.{Refusal}
use Rattle.base_refusals.specs.declared.Refusal.TheVariants.{NothingThere}
use Rattle.text_lines.specs.Lines.{line_from, line_at}
use Rattle.block_trimmed_line.specs.Fronts.{front_of, opens_at, begins_indented}
use Rattle.block_trimmed_line.specs.declared.Front.{Front}
use Rattle.block_trimmed_line.proofs.Trimmed.{opens_by, closes_by}
use Rattle.text_lines.proofs.Trim.{trim_to}
use Rattle.run_stops.proofs.Laws.{line_long, front_order}
use Rattle.run_stops.specs.Stops.{stop_at}
use Rattle.run_stops.specs.declared.Stop.{Stop}
use Rattle.run_lines.specs.Runs.{Run, run_at, joined_of, past_lines}
use Rattle.run_lines.specs.declared.Joined.{Joined}
use Rattle.run_refused.specs.Refused.{refused_at, handed_out}
use Rattle.run_refused.specs.declared.RefusedRun.{RefusedRun}
use Rattle.set_table.specs.Types.{two}
use Rattle.read_blocks.specs.Blocks.{Found, nothing, found, lines_of, joined_in, join_holds, block_of, sized}
use Rattle.read_blocks.specs.declared.Block.{Block}
use Rattle.read_blocks.proofs.Finds.{joined_is, found_none, none_holds, sized_is}
use Rattle.read_lengths.specs.Lengths.{flush_left}
use Rattle.sheet_blocks.specs.Sheets.{is_block}
use Rattle.sheet_blocks.proofs.Tries.{block_counted}
use Rattle.sheet_verdicts.specs.Verdicts.{block_verdict, verdict_at}
use Rattle.sheet_findings.specs.declared.Kind.{Kind}
use Rattle.sheet_findings.specs.declared.Kind.TheVariants.{Clear, Marked, Indented}
use Rattle.sheet_findings.specs.declared.Finding.{Finding}
use Rattle.sheet_findings.specs.declared.Step.{Step}
use Rattle.sheet_findings.specs.Findings.{here, chain_finding, joined_finding, left_kind, stop_finding, run_finding, run_holds, fault_finding, fault_holds, indented_finding, mark_finding, line_finding, limit_finding, finding_of, lines_past, try_at, step_of, step_holds}

-- ---- a run

module _ (t : List ℕ) (at from : ℕ) (buf : List ℕ) {j : Joined} {b : List ℕ} (e : j ≡ joined_of t at (run_at (length buf) 0 t at)) (w : b ≡ over (run_at (length buf) 0 t at).text buf) where
  abbrev Runs : Finding → List ℕ → Type 0
  Runs r c = (r ≡ run_finding t (length buf) at from) × (c ≡ run_holds t (length buf) at buf)

  pub run_closed : j.stop ≡ Ok tt → {r : Finding} → r ≡ joined_finding t at j.lines (take j.len b) → Runs r b
  unfolding run_finding run_holds
  run_closed q {r} f =
      let s : (run_at (length buf) 0 t at).stop ≡ (Ok tt) = rw e at q in
      (rw (s) (rw (joined_is t at 0 buf e w, e) at f), rw s w)

  pub run-stopped : {q : Refusal} → j.stop ≡ Err q → length b ≡ length buf → {s : Stop} → s ≡ stop_at t at j.lines → {x : RefusedRun} {c : List ℕ} → x ≡ handed_out (refused_at (length b) t at)
      → c ≡ over (refused_at (length b) t at).text b → {k : Kind} → k ≡ left_kind x.answer → {r : Finding} → r ≡ stop_finding s from k → Runs r c
  unfolding run_finding run_holds
  run-stopped {q} h l p {x} {c} u v m f =
      let s : (run_at (length buf) 0 t at).stop ≡ Err q = rw e at h in
      (rw s (rw (m, u, p, e, l) at f), rw s (rw (l, w) at v))

-- ---- a line that opens with a brace and is no block

pub front_in : (t : List ℕ) (at : ℕ) → at < length t → {f : Front} → f ≡ front_of t at → f.to ≤ length t
unfolding front_of
front_in t at h e = rw e (omega (arith, trim_to (line_at t at), line_long t at h))

pub front_from : (t : List ℕ) (at : ℕ) {f : Front} → f ≡ front_of t at → at ≤ f.from
unfolding front_of
front_from t at e = rw e (omega arith)

pub front_start : (t : List ℕ) (at : ℕ) → at < length t → {f : Front} → f ≡ front_of t at → f.from ≤ length t
front_start t at h {f} e = let z : f.from ≤ f.to = rw e (front_order t at) in omega (arith, z, front_in t at h e)

module _ (t : List ℕ) (at : ℕ) (buf : List ℕ) {f : Front} (e : f ≡ front_of t at) where
  abbrev Faults : Finding → List ℕ → Type 0
  Faults r c = (r ≡ fault_finding t (length buf) at) × (c ≡ fault_holds t (length buf) at buf)

  pub fault_closed : f.closes ≡ true → {r : Finding} → r ≡ chain_finding (take f.to t) f.from → Faults r buf
  unfolding fault_finding fault_holds
  fault_closed q p = let z = closes_by t at e q in (rw z (rw e at p), rw z)

  pub fault_open : f.closes ≡ false → {r : Finding} {c : List ℕ} → r ≡ run_finding t (length buf) at f.from → c ≡ run_holds t (length buf) at buf → Faults r c
  unfolding fault_finding fault_holds
  fault_open q p w = let z = closes_by t at e q in (rw z (rw e at p), rw z w)

-- ---- a line that doesn't

module _ (t : List ℕ) (at : ℕ) {s : List ℕ} (e : s ≡ slice at (at + 3) t) {b : Bool} (q : b ≡ same s (239 ∷ 187 ∷ 191 ∷ [])) where
  pub mark_none : b ≡ false → {r : Finding} → r ≡ here Clear 0 → r ≡ mark_finding t at
  unfolding mark_finding
  mark_none x p = rw (← e, ← q, x) p

  module _ (x : b ≡ true) {f : Front} (g : f ≡ front_of t (at + 3)) where
    pub mark_brace : f.opens ≡ true → {r : Finding} → r ≡ here Marked at → r ≡ mark_finding t at
    unfolding mark_finding
    mark_brace y p = rw (← e, ← q, x, opens_by t (at + 3) g y) p

    pub mark-text : f.opens ≡ false → {r : Finding} → r ≡ here Clear 0 → r ≡ mark_finding t at
    unfolding mark_finding
    mark-text y p = rw (← e, ← q, x, opens_by t (at + 3) g y) p

-- ---- a line

module _ (t : List ℕ) (at : ℕ) (buf : List ℕ) (fits : length t ≤ max_text) {f : Front} (e : f ≡ front_of t at) where
  abbrev Steps : Step → List ℕ → Type 0
  Steps r c = (r ≡ step_of t (length buf) at) × (c ≡ step_holds t (length buf) at buf)

  abbrev g : Found
  g = found t at 0 (length buf)

  next_is : f.next ≡ past_lines 1 t at
  unfolding front_of past_lines
  next_is = rw e

  -- the line is no block of the sheet
  line_step : is_block (flush_left t (length buf) at) ≡ false → {w : Finding} → w ≡ line_finding t (length buf) at → {r : Step} → r ≡ record { finding = w; lines = 1; next = f.next } → r ≡ step_of t (length buf) at
  unfolding step_of finding_of
  line_step n p q = rw n (rw (p, next_is) at q)

  lines_none : lines_of g ≡ 0 → lines_of (flush_left t (length buf) at) ≡ 0
  unfolding flush_left
  lines_none n = go (begins_indented (line_at t at))
    where
      go : (b : Bool) → lines_of (cond b (nothing NothingThere) g) ≡ 0
      go true = refl
      go false = n

  flush_none : lines_of g ≡ 0 → is_block (flush_left t (length buf) at) ≡ false
  flush_none n = block_counted t at (length buf) ∙ ap not (eq-eqb (lines_of (flush_left t (length buf) at)) 0 (lines_none n))

  text_finding : opens_at t at ≡ false → {w : Finding} → w ≡ mark_finding t f.from → w ≡ line_finding t (length buf) at
  unfolding line_finding
  text_finding z p = rw z (rw e at p)

  text_holds : opens_at t at ≡ false → buf ≡ step_holds t (length buf) at buf
  unfolding step_holds
  text_holds z = rw z

  pub step_text : f.opens ≡ false → {w : Finding} → w ≡ mark_finding t f.from → {r : Step} → r ≡ record { finding = w; lines = 1; next = f.next } → Steps r buf
  step_text o p q = let z = opens_by t at e o in (line_step (flush_none (ap lines_of (found_none t at 0 (length buf) z))) (text_finding z p) q, text_holds z)

  module _ (o : f.opens ≡ true) {x : Block} {b : List ℕ} (u : x ≡ block_of t at (sized t g)) (v : b ≡ join_holds buf (sized t g)) where
    open_is : opens_at t at ≡ true
    open_is = opens_by t at e o

    read_is : x ≡ block_of t at g
    read_is = u ∙ ap (block_of t at) (sized_is t g fits)

    held_is : b ≡ join_holds buf g
    held_is = v ∙ ap (join_holds buf) (sized_is t g fits)

    lines_is : x.lines ≡ lines_of g
    unfolding block_of
    lines_is = rw read_is

    fault_line : lines_of g ≡ 0 → {w : Finding} → w ≡ fault_finding t (length buf) at → w ≡ line_finding t (length buf) at
    unfolding line_finding
    fault_line z p = rw (open_is, eq-eqb (lines_of g) 0 z) p

    fault_held : lines_of g ≡ 0 → {c : List ℕ} → c ≡ fault_holds t (length buf) at (join_holds buf g) → c ≡ step_holds t (length buf) at buf
    unfolding step_holds
    fault_held z p = rw (open_is, eq-eqb (lines_of g) 0 z) p

    pub step_fault : x.lines ≡ 0 → length b ≡ length buf → {w : Finding} {c : List ℕ} → w ≡ fault_finding t (length b) at → c ≡ fault_holds t (length b) at b
        → {r : Step} → r ≡ record { finding = w; lines = 1; next = f.next } → Steps r c
    step_fault n l p q s =
        let z : lines_of g ≡ 0 = sym lines_is ∙ n in
        (line_step (flush_none z) (fault_line z (rw l at p)) s, fault_held z (rw (l, held_is) at q))

    module _ (n : x.lines ≡ 0 → ⊥) where
      some : eqb (lines_of g) 0 ≡ false
      some = ne_eqb (lines_of g) 0 (λ z. n (lines_is ∙ z))

      held : b ≡ step_holds t (length buf) at buf
      unfolding step_holds
      held = rw (open_is, some) held_is

      module _ {i : Bool} (j : i ≡ begins_indented (line_at t at)) where
        flush_indented : i ≡ true → flush_left t (length buf) at ≡ nothing NothingThere
        unfolding flush_left
        flush_indented y = rw (← j, y)

        indented_line : record { kind = Indented; row = 0; place = at; number = f.from - at } ≡ line_finding t (length buf) at
        unfolding line_finding
        indented_line = rw (open_is, some, e)

        pub step_indented : i ≡ true → {r : Step} → r ≡ record { finding = record { kind = Indented; row = 0; place = at; number = f.from - at }; lines = 1; next = f.next } → Steps r b
        step_indented y q = (line_step (ap is_block (flush_indented y)) indented_line q, held)

        module _ (y : i ≡ false) where
          flush_is : flush_left t (length buf) at ≡ g
          unfolding flush_left
          flush_is = rw (← j, y)

          block_is : is_block g ≡ true
          block_is = (rw flush_is at (block_counted t at (length buf))) ∙ ap not some

          module _ {d : Result (Unit {0}) Refusal} (m : d ≡ block_verdict (two t (slice 0 x.joined b)) x.set x.outcome) where
            verdict : d ≡ verdict_at t (record { line = 0; at = at; found = g })
            unfolding verdict_at block_of join_holds
            verdict = rw (read_is, held_is, take-append_seam (joined_in g) (drop (length (joined_in g)) buf)) at m

            pub step_block : {w : Finding} → w ≡ limit_finding d f.from → Steps (record { finding = w; lines = x.lines; next = x.next }) b
            unfolding step_of finding_of block_of
            step_block p = (rw (p, verdict, flush_is, block_is, read_is, e), held)
