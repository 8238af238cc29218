-- "Keep an index": its records, its text, and the rows of a lent record table.
use Rattle.std.specs.Prelude.{ℕ, suc, ◌+◌, ◌≤◌, ◌≡◌, Bool, true, not, eqb, length}
use mathlib.Core.List.{List, [], ◌∷◌, ◌++◌, flat_map}
use Rattle.base_lists.specs.Lists.{all}
use Rattle.base_bytes.specs.Bytes.{lf, tab, hyphen}
use Rattle.text_digits.specs.Decimal.{decimal}
use Rattle.sheet_records.specs.declared.IndexRow.{IndexRow}

-- ---- a record

-- "No fourth field means no id; an empty one means an empty id"
pub data RecordId : Type 0 where
  no_id : RecordId
  an_id : List ℕ → RecordId

-- "one record a line ..: first line number, line count, byte offset, and the unescaped id if there is one"
pub record Record : Type 0 where
  pub line : ℕ
  pub count : ℕ
  pub offset : ℕ
  pub id : RecordId

-- "it runs to LF": no byte of an id is one
abbrev pub not_lf : ℕ → Bool
not_lf b = not (eqb b lf)

abbrev pub id_fits : RecordId → Type 0
id_fits no_id = Unit {0}
id_fits (an_id s) = all not_lf s ≡ true

-- "Numbers are decimal, at most 65,535"
abbrev pub most_number : ℕ
most_number = 65535

-- a record in range: lines and counts from 1, ".. offsets from 0"
pub record InBounds (r : Record) : Type 0 where
  pub line_from : 1 ≤ r.line
  pub line_to : r.line ≤ most_number
  pub count_from : 1 ≤ r.count
  pub count_to : r.count ≤ most_number
  pub offset_to : r.offset ≤ most_number
  pub id_fits_lem : id_fits r.id

unfoldable pub AllIn : List Record → Type 0
AllIn [] = Unit {0}
AllIn (r ∷ rs) = InBounds r × AllIn rs

-- ---- how it is written

-- "first line number, line count, byte offset", "fields parted by tabs", "no leading zero"
unfoldable pub numbers_text : ℕ → ℕ → ℕ → List ℕ
numbers_text line count offset = decimal line ++ ((tab ∷ decimal count) ++ (tab ∷ decimal offset))

-- a tab and the id, where there is one
abbrev pub id_field : RecordId → List ℕ
id_field no_id = []
id_field (an_id s) = tab ∷ s

-- "one record a line", ".. every line ends in LF."
unfoldable pub record_line : Record → List ℕ
record_line r = numbers_text r.line r.count r.offset ++ (id_field r.id ++ (lf ∷ []))

-- "The index header becomes 2": the number of the form, named here and nowhere else
unfoldable pub index_version : ℕ
index_version = 2

-- "`carve-attr-index`"
abbrev pub index_word : List ℕ
index_word = 99 ∷ 97 ∷ 114 ∷ 118 ∷ 101 ∷ hyphen ∷ 97 ∷ 116 ∷ 116 ∷ 114 ∷ hyphen ∷ 105 ∷ 110 ∷ 100 ∷ 101 ∷ 120 ∷ []

-- "first line `carve-attr-index`, tab, `1`", where the version is 1
unfoldable pub header_of : ℕ → List ℕ
header_of v = index_word ++ ((tab ∷ decimal v) ++ (lf ∷ []))

abbrev pub index_header : List ℕ
index_header = header_of index_version

-- "first line ..; then one record a line"
unfoldable pub index_text : List Record → List ℕ
index_text rs = index_header ++ flat_map record_line rs

-- a text is "an index of this form", with these records
pub record IsIndex (t : List ℕ) (rs : List Record) : Type 0 where
  pub in_range : AllIn rs
  pub text : t ≡ index_text rs

-- ---- the rows of a lent record table

-- the row of a record whose numbers end at e of the index text: where its id begins and ends there, 0 and 0 where there is none; and where the next line begins
abbrev pub row_by : ℕ → Record → RecordId → IndexRow
row_by e r no_id = record { line = r.line; count = r.count; offset = r.offset; from = 0; to = 0; next = suc e }
row_by e r (an_id s) = record { line = r.line; count = r.count; offset = r.offset; from = suc e; to = suc e + length s; next = suc (suc e + length s) }

-- of one whose line begins at `at`
unfoldable pub row_at : ℕ → Record → IndexRow
row_at at r = row_by (at + length (numbers_text r.line r.count r.offset)) r r.id

unfoldable pub rows_at : ℕ → List Record → List IndexRow
rows_at at [] = []
rows_at at (r ∷ rs) = row_at at r ∷ rows_at (row_at at r).next rs

-- the rows of the index text of records
unfoldable pub index_rows : List Record → List IndexRow
index_rows rs = rows_at (length index_header) rs

-- a row is five numbers of the table: first line, line count, offset, and where the id begins and ends
abbrev pub row_numbers : IndexRow → List ℕ
row_numbers e = e.line ∷ e.count ∷ e.offset ∷ e.from ∷ e.to ∷ []

unfoldable pub table_numbers : List IndexRow → List ℕ
table_numbers es = flat_map row_numbers es
