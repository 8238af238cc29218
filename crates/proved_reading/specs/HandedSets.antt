-- The sets that reading hands out: at a brace, of a line, of a block and of a run.
use Rattle.std.specs.Prelude.{ℕ, ◌<◌, ◌≤◌, ◌≡◌, true, List, length, Err}
use Rattle.std.proofs.Math.Seq.{slice}
use Rattle.base_bytes.specs.declared.Mode.{Mode}
use Rattle.base_refusals.specs.declared.Refusal.{Refusal}
use Rattle.text_utf8.specs.Computed.{is_utf8}
use Rattle.text_checks.specs.Check.{is_text}
use Rattle.text_line_start.specs.Starts.{place_of}
use Rattle.block_grammar.specs.Close.{no_lf}
use Rattle.set_table.specs.Types.{one, empty_set, max_classes, max_keys, max_slots}
use Rattle.set_table.specs.declared.Attrs.{Attrs}
use Rattle.set_fill.specs.Fill.{fill_at}
use Rattle.set_wellformed.specs.WellFormed.{well_formed}
use Rattle.proved_sets.specs.HandedOut.{Zeroed}
use Rattle.read_brace.specs.Brace.{brace_paper, read_attrs_at}
use Rattle.read_blocks.specs.Blocks.{Found, found, wrapped, texts_in, block_of}
use Rattle.read_blocks.specs.ByLine.{block_found, wrapped_found}
use Rattle.read_by_line.specs.Entries.{parse_standalone}

-- ---- "a refusal has its number, hands out no set" (demand 1): its set is the empty one

-- at a brace, whatever the number is, with a place or without
abbrev pub BraceRefused : Mode → List ℕ → ℕ → Type 0
BraceRefused m t i = 0 < (brace_paper (read_attrs_at m t i).answer).number → (read_attrs_at m t i).set ≡ empty_set

abbrev pub LineRefused : List ℕ → ℕ → Refusal → Type 0
LineRefused t n r = (parse_standalone t n).outcome ≡ Err r → (parse_standalone t n).set ≡ empty_set

-- of a block or run, whatever was found
abbrev pub BlockRefused : List ℕ → ℕ → Found → Refusal → Type 0
BlockRefused t at f r = (block_of t at f).outcome ≡ Err r → (block_of t at f).set ≡ empty_set

-- ---- "Rows past the counts are zero in every set handed out"

-- at a brace, with the counts within the limits
pub record Tidy (a : Attrs) : Type 0 where
  pub classes : (a.nclass ≤ max_classes) × (length a.classes ≡ max_classes)
  pub keys : (a.nkey ≤ max_keys) × (length a.keys ≡ max_keys)
  pub slots : (a.norder ≤ max_slots) × (length a.order ≡ max_slots)
  pub past : Zeroed a

abbrev pub BraceTidy : Mode → List ℕ → ℕ → Type 0
BraceTidy m t i = Tidy (read_attrs_at m t i).set

abbrev pub LineZeroed : Type 0
LineZeroed = (t : List ℕ) (n : ℕ) → Zeroed (parse_standalone t n).set

-- of a block or run, whatever was found
abbrev pub BlockZeroed : Type 0
BlockZeroed = (t : List ℕ) (at : ℕ) (f : Found) → Zeroed (block_of t at f).set

-- ---- "and it is well-formed if its texts give neither 1 nor 2"

abbrev pub BraceFormed : Type 0
BraceFormed = (m : Mode) (t : List ℕ) (i : ℕ) → is_text t ≡ true → well_formed (one t) (read_attrs_at m t i).set ≡ true

abbrev pub LineFormed : Type 0
LineFormed = (t : List ℕ) → is_text t ≡ true → (n : ℕ) → well_formed (one t) (parse_standalone t n).set ≡ true

-- `fill`, which takes any part of a text: of one that is UTF-8 by itself and holds no LF
abbrev pub FillFormed : Type 0
FillFormed = (m : Mode) (t : List ℕ) (at end : ℕ) → is_text t ≡ true → is_utf8 (slice at end t) ≡ true → no_lf (slice at end t) ≡ true → well_formed (one t) (fill_at m t at end).set ≡ true

-- a block's set is well-formed over its texts, the lent one and what was joined
abbrev pub SetFormed : List ℕ → ℕ → Found → Type 0
SetFormed t at f = well_formed (texts_in t f) (block_of t at f).set ≡ true

-- by line number
abbrev pub BlockFormed : Type 0
BlockFormed = (t : List ℕ) → is_text t ≡ true → (n base cap : ℕ) → SetFormed t (place_of t n) (block_found t n base cap)

abbrev pub RunFormed : Type 0
RunFormed = (t : List ℕ) → is_text t ≡ true → (n base cap : ℕ) → SetFormed t (place_of t n) (wrapped_found t n base cap)

-- by place, wherever it is
abbrev pub BlockFormedAt : Type 0
BlockFormedAt = (t : List ℕ) → is_text t ≡ true → (at base cap : ℕ) → SetFormed t at (found t at base cap)

abbrev pub RunFormedAt : Type 0
RunFormedAt = (t : List ℕ) → is_text t ≡ true → (at base cap : ℕ) → SetFormed t at (wrapped t at base cap)
