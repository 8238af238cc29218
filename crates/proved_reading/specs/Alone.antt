-- `as_first` and `as_second`: a block's set as one over a single text, with another text beside it.
use Rattle.std.specs.Prelude.{◌≡◌, true, List, ℕ}
use Rattle.text_checks.specs.Check.{is_text}
use Rattle.set_table.specs.Types.{two}
use Rattle.set_table.specs.Rows.{meaning_of}
use Rattle.set_wellformed.specs.WellFormed.{well_formed}
use Rattle.read_blocks.specs.Blocks.{Found, texts_in, text_found, block_of, as_first, as_second}
use Rattle.proved_reading.specs.HandedSets.{SetFormed}

-- "A common block is one line in the sheet; the variant's block is wrapped and lives in the join buffer": each means what it meant, and is well-formed if it was
pub record OverOne (t : List ℕ) (at : ℕ) (f : Found) (u : List ℕ) : Type 0 where
  pub first : meaning_of (two (text_found t f) u) (as_first (block_of t at f)) ≡ meaning_of (texts_in t f) (block_of t at f).set
  pub second : meaning_of (two u (text_found t f)) (as_second (block_of t at f)) ≡ meaning_of (texts_in t f) (block_of t at f).set
  pub first_formed : is_text t ≡ true → is_text u ≡ true → SetFormed t at f → well_formed (two (text_found t f) u) (as_first (block_of t at f)) ≡ true
  pub second_formed : is_text t ≡ true → is_text u ≡ true → SetFormed t at f → well_formed (two u (text_found t f)) (as_second (block_of t at f)) ≡ true

abbrev pub BlocksOverOne : Type 0
BlocksOverOne = (t : List ℕ) (at : ℕ) (f : Found) (u : List ℕ) → OverOne t at f u
