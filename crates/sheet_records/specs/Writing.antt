-- Writing a record's line, its row and the first line into lent memory.
use Rattle.std.specs.Prelude.{ℕ, ◌+◌, ◌*◌, ◌/◌, Bool, cond, List, [], ◌∷◌, leb, ltb, length, None, Option, Some}
use Rattle.std.proofs.lemmas.List.Edits.{sets}
use Rattle.base_refusals.specs.Numbers.{Paper, passed_paper}
use Rattle.set_marks.specs.Marks.{bytes_in}
use Rattle.sheet_records.specs.Records.{RecordId, no_id, an_id, Record, record_line, row_at, row_numbers}
use Rattle.sheet_records.specs.declared.IndexRow.{IndexRow}

-- the id that raw bytes are, quoted or not, where there is one
abbrev pub raw_id : Bool → Bool → List ℕ → RecordId
raw_id given quoted s = cond given (an_id (bytes_in quoted s)) no_id

-- a line is written whole or not at all
abbrev pub line_fits : ℕ → ℕ → Record → Bool
line_fits size at r = leb (at + length (record_line r)) size

unfoldable pub put_of : ℕ → ℕ → Record → Option IndexRow
put_of size at r = cond (line_fits size at r) (Some (row_at at r)) None

unfoldable pub line_over : List ℕ → ℕ → Record → List ℕ
line_over buf at r = cond (line_fits (length buf) at r) (sets buf at (record_line r)) buf

-- on paper: the row and where the next line begins, or nothing where there is no room
abbrev pub put_paper : Option IndexRow → Paper
put_paper None = passed_paper []
put_paper (Some e) = passed_paper (e.next ∷ row_numbers e)

-- how many rows a table of n numbers has
abbrev pub table_size : ℕ → ℕ
table_size n = n / 5

-- a row, counted from 0, where the table has it
unfoldable pub row_over : List ℕ → ℕ → IndexRow → List ℕ
row_over table k e = cond (ltb k (table_size (length table))) (sets table (k * 5) (row_numbers e)) table
