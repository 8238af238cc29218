-- The loop of `next_finding`: before the line at `from`, the first finding among the tries to come is the one sought.
-- Assumes nothing.
use Rattle.std.specs.Prelude.{Err, None, Ok, Some}
use mathlib.Core.Path.{◌≡◌, refl, sym, ◌∙◌, ap}
use mathlib.Core.Bool.{Bool, true, false, cond, not}
use mathlib.Core.List.{List, [], ◌∷◌}
use Prim.Native.Nat.{ℕ, suc, ◌+◌, ◌-◌, ◌<◌, ◌≤◌}
use native.Mathlib.Numerals.{add-one}
use native.Mathlib.Omega.{arith}
use borrow.Author.Tests.{le-ltb, lt-ltb}
use lib.Dec.{ltb}
use lib.ListN.{length}
use Rattle.base_refusals.specs.Numbers.{max_text, too_long, Paper}
use Rattle.base_refusals.specs.Orders.{Ground, in_order, on_paper}
use Rattle.base_refusals.specs.declared.Refusal.TheVariants.{TextTooLong, JoinFull}
use Rattle.text_lines.specs.Lines.{line_from}
use Rattle.text_lines.proofs.Lines.{next_beyond}
use Rattle.run_lines.specs.Runs.{past_lines}
use Rattle.read_blocks.specs.Blocks.{Found, lines_of}
use Rattle.read_blocks.proofs.Places.{past_in}
use Rattle.read_lengths.specs.Lengths.{flush_left}
use Rattle.sheet_blocks.specs.Sheets.{Try, tries_at, is_block}
use Rattle.sheet_blocks.proofs.Tries.{some_lines, try, tries_end, tries_on, tries_past}
use Rattle.sheet_blocks.proofs.Goes.{block_bytes}
use Rattle.sheet_verdicts.specs.Verdicts.{verdict_at}
use Rattle.sheet_findings.specs.declared.Kind.{Kind}
use Rattle.sheet_findings.specs.declared.Finding.{Finding}
use Rattle.sheet_findings.specs.declared.Step.{Step}
use Rattle.sheet_findings.specs.declared.Next.{Next}
use Rattle.sheet_findings.specs.Findings.{is_clear, finding_of, lines_past, only_found, try_at, step_of, step_holds, at_once, first_found, next_finding, holds_up_to, next_holds, next_order, found_paper}

-- ---- a line is gone past

module _ (t : List ℕ) (cap n at : ℕ) (h : at < length t) where
  -- a block, or one line
  pub tries_step : tries_at t cap n at ≡ try t cap n at ∷ tries_at t cap (n + lines_past (flush_left t cap at)) (past_lines (lines_past (flush_left t cap at)) t at)
  unfolding past_lines
  tries_step = go (is_block (flush_left t cap at)) refl
    where
      go : (b : Bool) → is_block (flush_left t cap at) ≡ b → tries_at t cap n at ≡ try t cap n at ∷ tries_at t cap (n + cond b (lines_of (flush_left t cap at)) 1) (past_lines (cond b (lines_of (flush_left t cap at)) 1) t at)
      go true e = tries_past t cap n at h e
      go false e = rw (add-one n) (tries_on t cap n at h e)

  -- it has a byte
  pub step_bytes : at + lines_past (flush_left t cap at) ≤ past_lines (lines_past (flush_left t cap at)) t at
  unfolding past_lines
  step_bytes = go (is_block (flush_left t cap at))
    where
      go : (b : Bool) → at + cond b (lines_of (flush_left t cap at)) 1 ≤ past_lines (cond b (lines_of (flush_left t cap at)) 1) t at
      go true = block_bytes t cap at h
      go false = omega (arith, next_beyond t at h)

  pub step_some : 0 < lines_past (flush_left t cap at)
  step_some = go (is_block (flush_left t cap at)) refl
    where
      go : (b : Bool) → is_block (flush_left t cap at) ≡ b → 0 < cond b (lines_of (flush_left t cap at)) 1
      go true e = some_lines t at cap e
      go false e = omega arith

-- its number doesn't count
same_finding : (t : List ℕ) (cap n at : ℕ) → finding_of t cap (try t cap n at) ≡ finding_of t cap (try_at t cap 0 at)
unfolding finding_of verdict_at
same_finding t cap n at = refl

-- ---- on paper

pub next_paper : (t : List ℕ) (cap at : ℕ) → found_paper (next_finding t cap at).told ≡ on_paper (next_order t cap) (found_paper (next_finding t cap at).told).values
unfolding next_finding on_paper in_order
next_paper t cap at = go (too_long t) (ltb cap max_text) (only_found t cap (tries_at t cap 0 at))
  where
    next : Bool → Bool → List Try → Next
    next x y zs = cond x (at_once (Err TextTooLong) at) (cond y (at_once (Err JoinFull) at) (first_found t cap at zs))

    go : (x y : Bool) (zs : List Try)
        → found_paper (next x y zs).told ≡ on_paper (Ground.given TextTooLong x ∷ Ground.given JoinFull y ∷ []) (found_paper (next x y zs).told).values
    go true y zs = refl
    go false true zs = refl
    go false false [] = refl
    go false false (z ∷ zs) = refl

-- what is answered, beside what the join buffer then holds, is on paper what it is equal to
pub said : {x y : Next} {b d : List ℕ} {n : Paper} → found_paper y.told ≡ n → (x ≡ y) × (b ≡ d) → record { value : x ≡ y; join_after : b ≡ d; told_value : found_paper x.told ≡ n }
said k e = record { value = e.0; join_after = e.1; told_value = ap (λ z. found_paper z.told) e.0 ∙ k }

-- ---- before the loop

pub too_long_lem : (t : List ℕ) (at : ℕ) (buf : List ℕ) → max_text < length t → {r : Next} → r ≡ at_once (Err TextTooLong) at → (r ≡ next_finding t (length buf) at) × (buf ≡ next_holds t (length buf) at buf)
unfolding next_finding next_holds
too_long_lem t at buf h e = let z = lt-ltb max_text (length t) h in (rw z e, rw z)

pub too_short : (t : List ℕ) (at : ℕ) (buf : List ℕ) → length t ≤ max_text → length buf < max_text → {r : Next} → r ≡ at_once (Err JoinFull) at
    → (r ≡ next_finding t (length buf) at) × (buf ≡ next_holds t (length buf) at buf)
unfolding next_finding next_holds
too_short t at buf h k e = let z = le-ltb max_text (length t) h in let y = lt-ltb (length buf) max_text k in (rw (z, y) e, rw (z, y))

-- ---- the loop

pub record Seeks (t : List ℕ) (at : ℕ) (buf₀ buf : List ℕ) (skipped from : ℕ) : Type 0 where
  pub fits : length t ≤ max_text
  pub long : length buf ≡ length buf₀
  -- every line gone past has a byte
  pub few : skipped ≤ from
  pub next : first_found t (length buf₀) at (only_found t (length buf₀) (tries_at t (length buf₀) skipped from)) ≡ next_finding t (length buf₀) at
  pub join : holds_up_to t (length buf₀) buf (tries_at t (length buf₀) skipped from) ≡ next_holds t (length buf₀) at buf₀

pub seeks_start : (t : List ℕ) (at : ℕ) (buf : List ℕ) → length t ≤ max_text → max_text ≤ length buf → Seeks t at buf buf 0 at
unfolding next_finding next_holds
seeks_start t at buf h j =
    let x = le-ltb max_text (length t) h in
    let y = le-ltb (length buf) max_text j in
    record { fits = h; long = refl; few = omega arith; next = rw (x, y); join = rw (x, y) }

module _ {t : List ℕ} {at : ℕ} {buf₀ buf : List ℕ} {skipped from : ℕ} (inv : Seeks t at buf₀ buf skipped from) where
  abbrev Answers : Next → List ℕ → Type 0
  Answers r b = (r ≡ next_finding t (length buf₀) at) × (b ≡ next_holds t (length buf₀) at buf₀)

  pub seeks_end : length t ≤ from → {r : Next} → r ≡ at_once (Ok None) at → Answers r buf
  unfolding only_found holds_up_to
  seeks_end h e = let z = tries_end t (length buf₀) skipped from h in (e ∙ (rw z at inv.next), rw z at inv.join)

  module _ (h : from < length t) {r : Step} {b : List ℕ} (e : r ≡ step_of t (length buf) from) (j : b ≡ step_holds t (length buf) from buf) {x : Bool} (c : x ≡ is_clear r.finding.kind) where
    is : r ≡ step_of t (length buf₀) from
    is = rw inv.long at e

    held : b ≡ step_holds t (length buf₀) from buf
    held = rw inv.long at j

    abbrev past : ℕ
    past = lines_past (flush_left t (length buf₀) from)

    lines_is : r.lines ≡ past
    unfolding step_of
    lines_is = rw is

    next_is : r.next ≡ past_lines past t from
    unfolding step_of
    next_is = rw is

    finding_is : r.finding ≡ finding_of t (length buf₀) (try t (length buf₀) skipped from)
    unfolding step_of
    finding_is = rw is (sym (same_finding t (length buf₀) skipped from))

    clear_is : is_clear (finding_of t (length buf₀) (try t (length buf₀) skipped from)).kind ≡ x
    clear_is = rw finding_is at (sym c)

    pub step_far : skipped + r.lines ≤ r.next
    step_far = omega (arith, lines_is, next_is, step_bytes t (length buf₀) skipped from h, inv.few)

    pub step_in : r.next ≤ length t
    step_in = rw next_is (past_in past t from (omega (arith, h)))

    pub step_less : length t - r.next < length t - from
    step_less = omega (arith, h, lines_is, next_is, step_bytes t (length buf₀) skipped from h, step_some t (length buf₀) skipped from h)

    pub seeks_on : x ≡ true → length b ≡ length buf → Seeks t at buf₀ b (skipped + r.lines) r.next
    unfolding only_found holds_up_to
    seeks_on y l =
        let z = tries_step t (length buf₀) skipped from h in
        let w = clear_is ∙ y in
        record {
          fits = inv.fits;
          long = l ∙ inv.long;
          few = step_far;
          next = rw (lines_is, next_is) (rw (z, w) at inv.next);
          join = rw (lines_is, next_is, held) (rw (z, w) at inv.join);
        }

    pub seeks_found : x ≡ false → Answers (record { told = Ok (Some r.finding); skipped = skipped; at = from; lines = r.lines; next = r.next }) b
    unfolding only_found holds_up_to
    seeks_found y =
        let z = tries_step t (length buf₀) skipped from h in
        let w = clear_is ∙ y in
        (rw (finding_is, lines_is, next_is) (rw (z, w) at inv.next), held ∙ (rw (z, w) at inv.join))
