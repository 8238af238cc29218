-- Every line that opens with a brace and is no block has a finding.
-- Assumes nothing.
use Rattle.std.specs.Prelude.{Err, None, Ok, Option, Result, Some}
use mathlib.Core.Path.{◌≡◌, refl, sym, ◌∙◌, ap}
use mathlib.Core.Bool.{Bool, true, false, cond, not}
use mathlib.Core.List.{List, [], ◌∷◌, map}
use Prim.Native.Nat.{ℕ, suc, ◌+◌, ◌<◌, ◌≤◌}
use native.Mathlib.Omega.{arith}
use borrow.Author.Tests.{leb-true, leb-false, eqb-true}
use lib.Dec.{eqb, leb}
use lib.ListN.{length, take, drop, drop_of_length-le, length-append}
use lib.Seq.{slice, take_all}
use Rattle.base_lists.proofs.More.{contra}
use Rattle.base_refusals.specs.declared.Refusal.{Refusal}
use Rattle.base_refusals.specs.declared.Refusal.TheVariants.{NoReading, NothingThere, JoinFull}
use Rattle.text_lines.specs.Lines.{lines, line_from, line_at}
use Rattle.text_lines.specs.Trim.{trim}
use Rattle.text_lines.proofs.Lines.{line_at_lem}
use Rattle.block_payloads.specs.Payloads.{begins_open}
use Rattle.block_chain.specs.Chain.{good_line}
use Rattle.block_faults.specs.declared.Fault as faults
use Rattle.block_faults.specs.declared.Fault.TheVariants as fault
use Rattle.block_faults.specs.Faults.{is_good, fault_from}
use Rattle.block_faults.proofs.Goods.{good_line_lem}
use Rattle.block_trimmed_line.specs.Fronts.{front_of, opens_at}
use Rattle.block_trimmed_line.proofs.Trimmed.{opens-trim, front_slice, line_is}
use Rattle.run_scanners.specs.Scanners.{holds_open}
use Rattle.run_joins.specs.Joins.{Lined, So, may_join, is_full, is_closing, after, added}
use Rattle.run_lines.specs.Runs.{as_is, start, Run, ended, run_from, run_at}
use Rattle.run_lines.proofs.Bounds.{run_by_lem, took}
use Rattle.run_refused.specs.Refused.{refused_at}
use Rattle.run_refused.specs.declared.RunReply as replies
use Rattle.run_refused.specs.declared.RunReply.TheVariants as reply
use Rattle.run_stops.specs.Stops.{quote_left, stop_at}
use Rattle.run_stops.specs.declared.Stop.{Stop}
use Rattle.run_stops.specs.declared.Why as whys
use Rattle.run_stops.specs.declared.Why.TheVariants as why
use Rattle.read_blocks.specs.Blocks.{Found, nothing, closed_run, ended_run, run_found, found, lines_of}
use Rattle.sheet_blocks.specs.Sheets.{is_block}
use Rattle.sheet_findings.specs.declared.Kind.{Kind}
use Rattle.sheet_findings.specs.Findings.{is_clear, open_by, open_finding, chain_by, chain_finding, joined_finding, left_kind, stop_by, stop_finding, run_by, run_finding, fault_finding, indented_finding, line_finding, finding_of}
use Rattle.proved_findings.specs.Findings.{EveryBrace}

-- ---- blocks that should stand back to back

open_found : (s : List ℕ) (at : ℕ) → is_clear (open_finding s at).kind ≡ false
unfolding open_finding
open_found s at = go (quote_left s at)
  where
    go : (p : Option ℕ) → is_clear (open_by at p).kind ≡ false
    go None = refl
    go (Some p) = refl

chain_found : (s : List ℕ) (from : ℕ) → is_good (fault_from (drop from s) 0 from) ≡ false → is_clear (chain_finding s from).kind ≡ false
unfolding chain_finding
chain_found s from = go (fault_from (drop from s) 0 from)
  where
    go : (f : Option faults.Fault) → is_good f ≡ false → is_clear (chain_by s f).kind ≡ false
    go None e = contra true refl e
    go (Some (fault.Behind i)) e = refl
    go (Some (fault.Open i)) e = open_found s i
    go (Some (fault.Wrong i)) e = refl

-- ---- a run that is closed has joined a line, and a byte

text_grows : (cap : ℕ) (so : So) (ls : List Lined) → length so.text ≤ length (run_from cap so ls).text
text_grows cap =
    run_by_lem cap (λ so ls R. length so.text ≤ length R.text) (λ so ls. omega arith) (λ so l ls f. omega arith) (λ so ls. omega arith)
    (λ so l ls R p f ih. omega (arith, ih, length-append so.text (added (eqb so.lines 0) l.line)))

first_run : (cap : ℕ) (l : Lined) (ls : List Lined) → 0 < length (trim l.line) → (run_from cap (start 0) (l ∷ ls)).stop ≡ Ok tt
    → (0 < length (run_from cap (start 0) (l ∷ ls)).text) × (0 < (run_from cap (start 0) (l ∷ ls)).lines)
unfolding run_from
first_run cap l ls h = go (may_join so l) (is_full cap so l) (is_closing l.line (holds_open next.text)) (text_grows cap next ls) (took cap next ls).counted
  where
    so : So
    so = start 0

    next : So
    next = after so l

    R : Bool → Bool → Bool → Run
    R x y z = cond x (cond y (ended (Err JoinFull) so) (cond z (ended (Ok tt) next) (run_from cap next ls))) (ended (Err NoReading) so)

    go : (x y z : Bool) → length next.text ≤ length (run_from cap next ls).text → (run_from cap next ls).lines ≡ next.lines + (took cap next ls).n → (R x y z).stop ≡ Ok tt
        → (0 < length (R x y z).text) × (0 < (R x y z).lines)
    go false y z w v e = contra true refl (cc)
    go true true z w v e = contra true refl (cc)
    go true false true w v e = (h, omega arith)
    go true false false w v e = (omega (arith, w, h), omega (arith, v))

trim_some : (t : List ℕ) (at : ℕ) → opens_at t at ≡ true → 0 < length (trim (line_at t at))
unfolding opens_at
trim_some t at o = go (trim (line_at t at)) (opens-trim (line_at t at) ∙ o)
  where
    go : (s : List ℕ) → begins_open s ≡ true → 0 < length s
    go [] e = contra false e refl
    go (b ∷ s) e = omega arith

closed_some : (t : List ℕ) (cap at : ℕ) → at < length t → opens_at t at ≡ true → (run_at cap 0 t at).stop ≡ Ok tt → (0 < length (run_at cap 0 t at).text) × (0 < (run_at cap 0 t at).lines)
unfolding run_at
closed_some t cap at h o =
    rw (line_at_lem t at h) (first_run cap (as_is (slice at (line_from t at).to t)) (map as_is (lines (drop (line_from t at).next t))) (rw (line_is t at) at (trim_some t at o)))

-- ---- a line that opens with a brace and is no block

module _ (t : List ℕ) (cap at : ℕ) (h : at < length t) (o : opens_at t at ≡ true) where
  front_some : (front_of t at).from < length (take (front_of t at).to t)
  front_some = go (leb (length (take (front_of t at).to t)) (front_of t at).from) refl
    where
      go : (b : Bool) → leb (length (take (front_of t at).to t)) (front_of t at).from ≡ b → (front_of t at).from < length (take (front_of t at).to t)
      go false e = leb-false (length (take (front_of t at).to t)) (front_of t at).from e
      go true e = absurd (omega (arith, trim_some t at o, ap length (sym (front_slice t at o) ∙ drop_of_length-le (take (front_of t at).to t) (leb-true (length (take (front_of t at).to t)) (front_of t at).from e))))

  stop_found : (s : Stop) (from : ℕ) (a : Result replies.RunReply Refusal) → is_clear (stop_finding s from (left_kind a)).kind ≡ false
  unfolding stop_finding
  stop_found s from a = go s.why a
    where
      go : (w : whys.Why) (a : Result replies.RunReply Refusal) → is_clear (stop_by s from (left_kind a) w).kind ≡ false
      go why.End a = refl
      go why.Blank a = refl
      go why.Quoted a = refl
      go why.Entries a = refl
      go why.Left (Ok (reply.No n)) = refl
      go why.Left (Ok (reply.Lines n)) = refl
      go why.Left (Ok reply.NoEnd) = refl
      go why.Left (Err r) = refl

  joined-found : (n : ℕ) (s : List ℕ) → 0 < length s → good_line s 0 (length s) ≡ false → is_clear (joined_finding t at n s).kind ≡ false
  unfolding joined_finding
  joined-found n s l g = chain_found s 0 ((rw (take_all (length s) s (omega arith)) at (good_line_lem s 0 (length s) (rw (take_all (length s) s (omega arith)) l))) ∙ g)

  run-found : (from : ℕ) → lines_of (run_found t at 0 cap) ≡ 0 → is_clear (run_finding t cap at from).kind ≡ false
  unfolding run_found run_finding
  run-found from = go (run_at cap 0 t at).stop refl
    where
      r : Run
      r = run_at cap 0 t at

      closed : (g : Bool) → good_line r.text 0 (length r.text) ≡ g → (0 < length r.text) × (0 < r.lines) → lines_of (closed_run r g) ≡ 0 → is_clear (joined_finding t at r.lines r.text).kind ≡ false
      closed true e w z = absurd (omega (arith, w.1, z))
      closed false e w z = joined-found r.lines r.text w.0 e

      go : (x : Result (Unit {0}) Refusal) → r.stop ≡ x → lines_of (ended_run r x) ≡ 0 → is_clear (run_by t cap at from r x).kind ≡ false
      go (Ok _) e z = closed (good_line r.text 0 (length r.text)) refl (closed_some t cap at h o e) z
      go (Err q) e z = stop_found (stop_at t at r.lines) from (refused_at cap t at).answer

  fault_found : lines_of (found t at 0 cap) ≡ 0 → is_clear (fault_finding t cap at).kind ≡ false
  unfolding found fault_finding
  fault_found z = go (good_line t (front_of t at).from (front_of t at).to) refl (front_of t at).closes (rw o at z)
    where
      go : (g : Bool) → good_line t (front_of t at).from (front_of t at).to ≡ g → (c : Bool) → lines_of (cond g Found.line (cond c (nothing NoReading) (run_found t at 0 cap))) ≡ 0
          → is_clear (cond c (chain_finding (take (front_of t at).to t) (front_of t at).from) (run_finding t cap at (front_of t at).from)).kind ≡ false
      go true e c w = absurd (omega (arith, w))
      go false e true w = chain_found (take (front_of t at).to t) (front_of t at).from (good_line_lem t (front_of t at).from (front_of t at).to front_some ∙ e)
      go false e false w = run-found (front_of t at).from w

-- .. or is one that is indented
line_found : (t : List ℕ) (cap at : ℕ) → at < length t → opens_at t at ≡ true → is_clear (line_finding t cap at).kind ≡ false
unfolding line_finding
line_found t cap at h o = rw o (go (eqb (lines_of (found t at 0 cap)) 0) refl)
  where
    go : (x : Bool) → eqb (lines_of (found t at 0 cap)) 0 ≡ x → is_clear (cond x (fault_finding t cap at) (indented_finding t at)).kind ≡ false
    go true e = fault_found t cap at h o (eqb-true (lines_of (found t at 0 cap)) 0 e)
    go false e = refl

pub every_brace : EveryBrace
unfolding finding_of
every_brace t cap n at h o b = rw b (ap not (line_found t cap at h o))
