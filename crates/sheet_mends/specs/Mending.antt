-- "mend after lines a to b were replaced. The mended index equals one built afresh from the new text."
use Rattle.std.specs.Prelude.{ℕ, List, [], ◌∷◌, ◌++◌, ltb, length, Err, Ok, Result}
use Rattle.base_lists.specs.Lists.{same}
use Rattle.base_refusals.specs.Numbers.{max_text}
use Rattle.base_refusals.specs.Orders.{Ground, in_order}
use Rattle.base_refusals.specs.declared.Refusal.TheVariants.{NothingThere, JoinFull, NotAnIndex, AnotherVersion}
use Rattle.text_checks.specs.Check.{both_order}
use Rattle.sheet_blocks.specs.Sheets.{Try, tries_at}
use Rattle.sheet_records.specs.Records.{index_version, index_text, index_rows, table_numbers}
use Rattle.sheet_records.specs.Listed.{records_of}
use Rattle.sheet_records.specs.Computed.{is_other}
use Rattle.sheet_edits.specs.Edits.{again_of, is_again, again_text}
use Rattle.sheet_index.specs.Building.{room_for, laid_by}
use Rattle.base_refusals.specs.declared.Refusal.{Refusal}

-- ---- the orders: the texts `old` and `new`, lines a to b, and `cap` bytes to join in

-- "after 1 and 2 (old text, then new)", "9, right after 2", "3 lines a to b not in the old text, or the new text not beginning with .."
unfoldable pub edit_order : List ℕ → List ℕ → ℕ → ℕ → ℕ → List Ground
edit_order old new a b cap = both_order old new ++ (Ground.given JoinFull (ltb cap max_text) ∷ Ground.lacking NothingThere (is_again (again_of old new a b)) ∷ [])

-- "16 first line right but for another number, before 14": told by the first line, before the old text is read
abbrev pub version_order : List ℕ → List Ground
version_order index = Ground.given AnotherVersion (is_other index_version index) ∷ []

-- "14 .. when mending, not that of the old text"
abbrev pub old_order : List ℕ → List ℕ → List Ground
old_order old index = Ground.lacking NotAnIndex (same index (index_text (records_of old))) ∷ []

-- and then 15 and 19, of the new records alone: for a table of n numbers and a buffer of `size` bytes
unfoldable pub mend_order : List ℕ → List ℕ → ℕ → ℕ → List ℕ → ℕ → ℕ → ℕ → List Ground
mend_order old new a b index cap n size = edit_order old new a b cap ++ (version_order index ++ (old_order old index ++ room_for n size (records_of new)))

-- ---- what is answered, and what then stands in the lent table and the lent buffer: those of the fresh index
module _ (old new : List ℕ) (a b : ℕ) (index : List ℕ) (cap n size : ℕ) where
  unfoldable pub mended_of : Result (ℕ × ℕ) Refusal
  mended_of = in_order Err (mend_order old new a b index cap n size) (Ok (length (records_of new), length (index_text (records_of new))))

  unfoldable pub mended_text : List ℕ
  mended_text = laid_by (mend_order old new a b index cap n size) (index_text (records_of new))

  unfoldable pub mended_table : List ℕ
  mended_table = laid_by (mend_order old new a b index cap n size) (table_numbers (index_rows (records_of new)))

-- the tries that are made: all of the old text, and where the index is its own, those of the lines that are read again
unfoldable pub mend_tries : List ℕ → List ℕ → ℕ → ℕ → List ℕ → ℕ → List Try
mend_tries old new a b index cap =
    laid_by (edit_order old new a b cap)
    (laid_by (version_order index)
    (tries_at old max_text 1 0 ++ laid_by (old_order old index) (tries_at (again_text new (again_of old new a b)) max_text 1 0)))
