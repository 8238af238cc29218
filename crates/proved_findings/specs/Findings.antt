-- The findings of a sheet: which lines have one, and how a caller goes from one to the next.
use Rattle.std.specs.Prelude.{◌≡◌, Bool, true, false, ◌&&◌, List, [], ◌∷◌, ℕ, ◌+◌, ◌<◌, ◌≤◌, length, Err, Ok, None, Option, Result, Some}
use Rattle.std.proofs.Math.Seq.{slice}
use Rattle.base_lists.specs.Lists.{same}
use Rattle.base_refusals.specs.Numbers.{max_text}
use Rattle.base_refusals.specs.declared.Refusal.{Refusal}
use Rattle.block_trimmed_line.specs.Fronts.{front_of, opens_at}
use Rattle.read_lengths.specs.Lengths.{flush_left}
use Rattle.sheet_blocks.specs.Sheets.{Try, tries_at, is_block}
use Rattle.sheet_verdicts.specs.Verdicts.{verdict_at}
use Rattle.sheet_findings.specs.declared.Kind.TheVariants as kind
use Rattle.sheet_findings.specs.declared.Next.{Next}
use Rattle.sheet_findings.specs.Findings.{here, byte_order_mark, finding_of, is_found, only_found, findings_of, try_at, next_finding}
use Rattle.sheet_findings.specs.declared.Finding.{Finding}

-- ---- which lines have one

-- every line that isn't part of a block and whose trimmed front is `{`
abbrev pub EveryBrace : Type 0
EveryBrace = (t : List ℕ) (cap n at : ℕ) → at < length t → opens_at t at ≡ true → is_block (flush_left t cap at) ≡ false → is_found t cap (try_at t cap n at) ≡ true

-- the place p has the bytes EF BB BF, and behind them a brace, blanks between them allowed
abbrev pub has_mark : List ℕ → ℕ → Bool
has_mark t p = same (slice p (p + 3) t) byte_order_mark && opens_at t (p + 3)

-- of the lines that are no block and don't open with a brace only those with a byte order mark before one, at their trimmed front; that is the place which is told
abbrev pub OnlyMarks : Type 0
OnlyMarks = (t : List ℕ) (cap : ℕ) (x : Try) → is_block x.found ≡ false → opens_at t x.at ≡ false
    → (is_found t cap x ≡ has_mark t (front_of t x.at).from) × (is_found t cap x ≡ true → finding_of t cap x ≡ here kind.Marked (front_of t x.at).from)

-- a block that is printed has none, and one that is refused, by 6, 7 or 10, has one
abbrev pub PrintedBlocks : Type 0
PrintedBlocks = (t : List ℕ) (cap : ℕ) (x : Try) → is_block x.found ≡ true → verdict_at t x ≡ Ok tt → is_found t cap x ≡ false

abbrev pub RefusedBlocks : Type 0
RefusedBlocks = (t : List ℕ) (cap : ℕ) (x : Try) (r : Refusal) → is_block x.found ≡ true → verdict_at t x ≡ Err r → is_found t cap x ≡ true

-- ---- how a caller goes on: behind a finding, at the line and the place that are told

abbrev pub GoesBy : List ℕ → ℕ → ℕ → ℕ → Next → Result (Option Finding) Refusal → Type 0
GoesBy t cap n at r (Err q) = ⊥
GoesBy t cap n at r (Ok None) = only_found t cap (tries_at t cap n at) ≡ []
GoesBy t cap n at r (Ok (Some f)) =
    (only_found t cap (tries_at t cap n at) ≡ try_at t cap (n + r.skipped) r.at ∷ only_found t cap (tries_at t cap (n + r.skipped + r.lines) r.next))
    × (finding_of t cap (try_at t cap (n + r.skipped) r.at) ≡ f)

-- so a caller who begins at the first line and goes on behind each finding is told all of the sheet, one after the other
abbrev pub OneAfterTheOther : Type 0
OneAfterTheOther = (t : List ℕ) (cap n at : ℕ) → length t ≤ max_text → max_text ≤ cap → GoesBy t cap n at (next_finding t cap at) (next_finding t cap at).told

abbrev pub FromTheFirstLine : Type 0
FromTheFirstLine = (t : List ℕ) → findings_of t ≡ only_found t max_text (tries_at t max_text 1 0)
