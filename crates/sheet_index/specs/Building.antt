-- "Wanted: build, read, ..": what is answered, and what then stands in the lent table and the lent buffer.
use Rattle.std.specs.Prelude.{ℕ, Bool, true, false, List, [], ◌∷◌, ◌++◌, ltb, length, Err, Ok, Result}
use Rattle.base_refusals.specs.Numbers.{max_text, Paper, refused_paper, passed_paper}
use Rattle.base_refusals.specs.Orders.{Ground, in_order}
use Rattle.base_refusals.specs.declared.Refusal.TheVariants.{JoinFull, NotAnIndex, TableFull, AnotherVersion, IndexTooLong}
use Rattle.text_checks.specs.Check.{text_order}
use Rattle.sheet_blocks.specs.Sheets.{Try, tries_at}
use Rattle.sheet_records.specs.Records.{Record, index_version, index_text, index_rows, table_numbers}
use Rattle.sheet_records.specs.Listed.{records_of}
use Rattle.sheet_records.specs.Computed.{Index, not_index, rows, is_other, read_index}
use Rattle.sheet_records.specs.Writing.{table_size}
use Rattle.sheet_records.specs.declared.IndexRow.{IndexRow}
use Rattle.base_refusals.specs.declared.Refusal.{Refusal}

-- ---- the orders

-- "after 1 and 2", "answer 9, right after 2, for a shorter one"
unfoldable pub sheet_order : List ℕ → ℕ → List Ground
sheet_order t cap = text_order t ++ (Ground.given JoinFull (ltb cap max_text) ∷ [])

-- "15 lent record table full", "19 index text longer than its lent buffer": of records for a table of n numbers and a buffer of `size` bytes
unfoldable pub room_for : ℕ → ℕ → List Record → List Ground
room_for n size rs = Ground.given TableFull (ltb (table_size n) (length rs)) ∷ Ground.given IndexTooLong (ltb size (length (index_text rs))) ∷ []

-- "14 not an index of this form"
abbrev pub is_read : Index → Bool
is_read (not_index r) = false
is_read (rows es) = true

-- and before it "16 first line right but for another number"
abbrev pub form_order : List ℕ → List Ground
form_order t = Ground.given AnotherVersion (is_other index_version t) ∷ Ground.lacking NotAnIndex (is_read (read_index t)) ∷ []

-- "lent table and buffer are then unchanged": on a refusal nothing is laid
abbrev pub laid_by : {A : Type 0} → List Ground → List A → List A
laid_by gs xs = in_order (λ r. []) gs xs

-- ---- building: the text t, with `cap` bytes to join in, a table of n numbers and a buffer of `size` bytes

unfoldable pub build_order : List ℕ → ℕ → ℕ → ℕ → List Ground
build_order t cap n size = sheet_order t cap ++ room_for n size (records_of t)

-- how many records, and how many bytes of index text
unfoldable pub built_of : List ℕ → ℕ → ℕ → ℕ → Result (ℕ × ℕ) Refusal
built_of t cap n size = in_order Err (build_order t cap n size) (Ok (length (records_of t), length (index_text (records_of t))))

unfoldable pub built_text : List ℕ → ℕ → ℕ → ℕ → List ℕ
built_text t cap n size = laid_by (build_order t cap n size) (index_text (records_of t))

unfoldable pub built_table : List ℕ → ℕ → ℕ → ℕ → List ℕ
built_table t cap n size = laid_by (build_order t cap n size) (table_numbers (index_rows (records_of t)))

-- the tries that are made, whether the records have room or not
unfoldable pub built_tries : List ℕ → ℕ → List Try
built_tries t cap = laid_by (sheet_order t cap) (tries_at t max_text 1 0)

abbrev pub built_paper : Result (ℕ × ℕ) Refusal → Paper
built_paper (Err r) = refused_paper r
built_paper (Ok (k, n)) = passed_paper (k ∷ n ∷ [])

-- ---- reading: the index text t and a table of n numbers

abbrev pub rows_read : Index → List IndexRow
rows_read (not_index r) = []
rows_read (rows es) = es

-- 16 and 14 before 15: the whole text counts before the table does
unfoldable pub count_order : List ℕ → ℕ → List Ground
count_order t n = form_order t ++ (Ground.given TableFull (ltb (table_size n) (length (rows_read (read_index t)))) ∷ [])

unfoldable pub counted_of : List ℕ → ℕ → Result ℕ Refusal
counted_of t n = in_order Err (count_order t n) (Ok (length (rows_read (read_index t))))

unfoldable pub counted_table : List ℕ → ℕ → List ℕ
counted_table t n = laid_by (count_order t n) (table_numbers (rows_read (read_index t)))

abbrev pub counted_paper : Result ℕ Refusal → Paper
counted_paper (Err r) = refused_paper r
counted_paper (Ok k) = passed_paper (k ∷ [])
