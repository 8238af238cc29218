-- "Keep an index: ..": its form in both directions, and what is built.
use Rattle.std.specs.Prelude.{◌≡◌, List, ℕ}
use Rattle.sheet_records.specs.Records.{Record, AllIn, index_text, index_rows, IsIndex}
use Rattle.sheet_records.specs.Computed.{rows, read_index}
use Rattle.sheet_records.specs.declared.IndexRow.{IndexRow}
use Rattle.sheet_index.specs.Finding.{records_by}

-- what is read as rows is of the form, with the records that these rows say
abbrev pub ReadIsIndex : Type 0
ReadIsIndex = (t : List ℕ) (es : List IndexRow) → read_index t ≡ rows es → IsIndex t (records_by t es)

-- each text of the form is read, as the rows of its records, which say these records
abbrev pub IndexIsRead : Type 0
IndexIsRead = (t : List ℕ) (rs : List Record) → IsIndex t rs → (read_index t ≡ rows (index_rows rs)) × (records_by t (index_rows rs) ≡ rs)

-- one list of records for each text
abbrev pub OneList : Type 0
OneList = (rs qs : List Record) → AllIn rs → AllIn qs → index_text rs ≡ index_text qs → rs ≡ qs
