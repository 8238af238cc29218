-- The findings of a sheet.
-- Assumes nothing.
use mathlib.Core.Path.{◌≡◌, refl, sym, ◌∙◌, ap}
use mathlib.Core.Bool.{Bool, true, false, cond, not, ◌&&◌}
use mathlib.Core.List.{List, [], ◌∷◌}
use Prim.Native.Nat.{ℕ, zero, suc, ◌+◌, ◌-◌, ◌<◌, ◌≤◌}
use native.Mathlib.Nat.{add-zero, zero-add}
use native.Mathlib.Omega.{arith}
use borrow.Author.Tests.{ltb-true, ltb-false, le-ltb, eqb-true}
use lib.Dec.{eqb, ltb}
use lib.ListN.{length, take, drop}
use lib.Seq.{slice}
use Rattle.base_lists.specs.Lists.{same}
use Rattle.base_lists.proofs.More.{contra}
use Rattle.base_refusals.specs.Numbers.{max_text}
use Rattle.text_lines.specs.Lines.{ranges}
use Rattle.run_lines.specs.Runs.{past_lines}
use Rattle.read_lengths.specs.Lengths.{flush_left}
use Rattle.block_trimmed_line.specs.Fronts.{front_of, opens_at}
use Rattle.sheet_blocks.specs.Sheets.{Try, tries_at, is_block}
use Rattle.sheet_blocks.proofs.Tries.{tries_end}
use Rattle.sheet_verdicts.specs.Verdicts.{verdict_at}
use Rattle.sheet_findings.specs.declared.Finding.{Finding}
use Rattle.sheet_findings.specs.declared.Kind.TheVariants as kind
use Rattle.sheet_findings.specs.Findings.{here, is_clear, byte_order_mark, mark_finding, line_finding, limit_finding, finding_of, lines_past, is_found, only_found, findings_of, try_at, first_found, next_finding}
use Rattle.sheet_findings.proofs.Seeks.{tries_step, step_bytes, step_some}
use Rattle.proved_findings.specs.Findings.{has_mark, OnlyMarks, PrintedBlocks, RefusedBlocks, GoesBy, OneAfterTheOther, FromTheFirstLine}

-- ---- which lines have one

pub only_marks : OnlyMarks
unfolding finding_of line_finding mark_finding
only_marks t cap x n o = rw (n, o) (go (has_mark t (front_of t x.at).from))
  where
    told : Bool → Finding
    told b = cond b (here kind.Marked (front_of t x.at).from) (here kind.Clear 0)

    go : (b : Bool) → (not (is_clear (told b).kind) ≡ b) × (not (is_clear (told b).kind) ≡ true → told b ≡ here kind.Marked (front_of t x.at).from)
    go true = (refl, λ e. refl)
    go false = (refl, λ e. contra false e refl)

pub printed_blocks : PrintedBlocks
unfolding finding_of
printed_blocks t cap x b v = rw (b, v)

pub refused_blocks : RefusedBlocks
unfolding finding_of
refused_blocks t cap x r b v = rw (b, v)

-- ---- how a caller goes on

-- none from the line at `at` on, or the first at `from`, s lines behind it
data Leads (t : List ℕ) (cap at : ℕ) : Type 0 where
  ends : ((n : ℕ) → only_found t cap (tries_at t cap n at) ≡ []) → Leads t cap at
  first : (s from : ℕ)
      → ((n : ℕ) → only_found t cap (tries_at t cap n at) ≡ try_at t cap (n + s) from ∷ only_found t cap (tries_at t cap (n + s + lines_past (flush_left t cap from)) (past_lines (lines_past (flush_left t cap from)) t from)))
      → Leads t cap at

module _ (t : List ℕ) (cap : ℕ) where
  leads_end : (at : ℕ) → length t ≤ at → Leads t cap at
  unfolding only_found
  leads_end at h = Leads.ends (λ n. rw (tries_end t cap n at h))

  -- a line's number doesn't count
  same-found : (n at : ℕ) → is_found t cap (try_at t cap n at) ≡ is_found t cap (try_at t cap 0 at)
  unfolding finding_of verdict_at
  same-found n at = refl

  found_here : (at : ℕ) → at < length t → is_found t cap (try_at t cap 0 at) ≡ true → Leads t cap at
  unfolding only_found
  found_here at h e = Leads.first 0 at (λ n. rw (add-zero n, tries_step t cap n at h, same-found n at, e))

  found_on : (at : ℕ) → at < length t → is_found t cap (try_at t cap 0 at) ≡ false → Leads t cap (past_lines (lines_past (flush_left t cap at)) t at) → Leads t cap at
  unfolding only_found
  found_on at h e (Leads.ends w) = Leads.ends (λ n. rw (tries_step t cap n at h, same-found n at, e) (w (n + lines_past (flush_left t cap at))))
  found_on at h e (Leads.first s from w) =
      Leads.first (lines_past (flush_left t cap at) + s) from (λ n.
      let z : n + (lines_past (flush_left t cap at) + s) ≡ n + lines_past (flush_left t cap at) + s = omega arith in
      rw (z, tries_step t cap n at h, same-found n at, e) (w (n + lines_past (flush_left t cap at))))

  leads : (fuel at : ℕ) → length t ≤ at + fuel → Leads t cap at
  leads zero at h = leads_end at (omega arith)
  leads (suc fuel) at h = go (ltb at (length t)) refl (is_found t cap (try_at t cap 0 at)) refl (leads fuel (past_lines (lines_past (flush_left t cap at)) t at))
    where
      go : (x : Bool) → ltb at (length t) ≡ x → (y : Bool) → is_found t cap (try_at t cap 0 at) ≡ y
          → (length t ≤ past_lines (lines_past (flush_left t cap at)) t at + fuel → Leads t cap (past_lines (lines_past (flush_left t cap at)) t at)) → Leads t cap at
      go false x y e ih = leads_end at (ltb-false at (length t) x)
      go true x true e ih = found_here at (ltb-true at (length t) x) e
      go true x false e ih = let l = ltb-true at (length t) x in found_on at l e (ih (omega (arith, h, step_bytes t cap 0 at l, step_some t cap 0 at l)))

goes : (t : List ℕ) (cap n at : ℕ) → Leads t cap at → GoesBy t cap n at (first_found t cap at (only_found t cap (tries_at t cap 0 at))) (first_found t cap at (only_found t cap (tries_at t cap 0 at))).told
unfolding finding_of verdict_at
goes t cap n at (Leads.ends w) = rw (w 0) (w n)
goes t cap n at (Leads.first s from w) = rw (w 0, zero-add s) (w n, refl)

pub one-after_the_other : OneAfterTheOther
unfolding next_finding
one-after_the_other t cap n at k j = rw (le-ltb max_text (length t) k, le-ltb cap max_text j) (goes t cap n at (leads t cap (length t) at (omega arith)))

pub from_the_first_line : FromTheFirstLine
unfolding findings_of ranges tries_at
from_the_first_line t = refl
