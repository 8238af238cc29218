-- "The mended index equals one built afresh from the new text.", ".. lent table and buffer are then unchanged."
use Rattle.std.specs.Prelude.{◌≡◌, List, [], ℕ, Err, Ok}
use Rattle.base_refusals.specs.declared.Refusal.{Refusal}
use Rattle.sheet_records.specs.Records.{index_text}
use Rattle.sheet_records.specs.Listed.{records_of}
use Rattle.sheet_index.specs.Building.{built_of, built_text, built_table}
use Rattle.sheet_edits.specs.Edits.{Replaced}
use Rattle.sheet_mends.specs.Mending.{mended_of, mended_text, mended_table}

-- where an index is mended, the old text was edited as the lines say and the index was its own; and building from the new text with the same lent memory answers the
-- same and leaves the same text and the same table
pub record Afresh (old new : List ℕ) (a b : ℕ) (index : List ℕ) (cap n size k m : ℕ) : Type 0 where
  pub replaced : Replaced old new a b
  pub own : index ≡ index_text (records_of old)
  pub answer : built_of new cap n size ≡ Ok (k, m)
  pub text : mended_text old new a b index cap n size ≡ built_text new cap n size
  pub table : mended_table old new a b index cap n size ≡ built_table new cap n size

abbrev pub MendedAfresh : Type 0
MendedAfresh = (old new : List ℕ) (a b : ℕ) (index : List ℕ) (cap n size k m : ℕ) → mended_of old new a b index cap n size ≡ Ok (k, m) → Afresh old new a b index cap n size k m

-- a refusal lays nothing into the lent table and the lent buffer
abbrev pub RefusedLeaves : Type 0
RefusedLeaves = (old new : List ℕ) (a b : ℕ) (index : List ℕ) (cap n size : ℕ) (r : Refusal) → mended_of old new a b index cap n size ≡ Err r
    → (mended_text old new a b index cap n size ≡ []) × (mended_table old new a b index cap n size ≡ [])
