-- "look up the first record of an id", "Looking up says not found exactly when no record .. has that id."
use Rattle.std.specs.Prelude.{ℕ, zero, suc, Bool, false, cond, List, [], ◌∷◌, map, ltb, length, get_or, drop, Err, None, Ok, Option, Result, Some}
use Rattle.base_lists.specs.Lists.{same}
use Rattle.base_refusals.specs.Numbers.{Paper, refused_paper, passed_paper}
use Rattle.base_refusals.specs.Orders.{in_order}
use Rattle.sheet_records.specs.Records.{RecordId, no_id, an_id, Record}
use Rattle.sheet_records.specs.Computed.{read_index, record_in}
use Rattle.sheet_records.specs.declared.IndexRow.{IndexRow}
use Rattle.sheet_index.specs.Building.{form_order, rows_read}
use Rattle.base_refusals.specs.declared.Refusal.{Refusal}

-- an empty id is one, and no id is none
abbrev pub is_id : RecordId → List ℕ → Bool
is_id no_id id = false
is_id (an_id s) id = same s id

abbrev pub has_id : List ℕ → Record → Bool
has_id id r = is_id r.id id

-- the first of the records with that id
unfoldable pub first_with : List ℕ → List Record → Result (Option (ℕ × ℕ × ℕ)) Refusal
first_with id [] = Ok None
first_with id (r ∷ rs) = cond (has_id id r) (Ok (Some (r.line, r.count, r.offset))) (first_with id rs)

-- its first line, line count and offset, or nothing where no record has it
unfoldable pub values_with : List ℕ → List Record → List ℕ
values_with id [] = []
values_with id (r ∷ rs) = cond (has_id id r) (r.line ∷ r.count ∷ r.offset ∷ []) (values_with id rs)

-- what rows say of the index text t
abbrev pub records_by : List ℕ → List IndexRow → List Record
records_by t es = map (record_in t) es

-- in an index text: a fault anywhere in it is one, also behind the record
unfoldable pub find_record : List ℕ → List ℕ → Result (Option (ℕ × ℕ × ℕ)) Refusal
find_record t id = in_order Err (form_order t) (first_with id (records_by t (rows_read (read_index t))))

-- the row that five numbers at the front are
abbrev pub first_row : List ℕ → IndexRow
first_row s = record { line = get_or s 0 0; count = get_or s 1 0; offset = get_or s 2 0; from = get_or s 3 0; to = get_or s 4 0; next = 0 }

-- the first n rows of a table, or as many as it has
unfoldable pub table_rows : ℕ → List ℕ → List IndexRow
table_rows zero s = []
table_rows (suc n) s = cond (ltb (length s) 5) [] (first_row s ∷ table_rows n (drop 5 s))

-- over rows already read, whatever they are
unfoldable pub find_row : List ℕ → List ℕ → ℕ → List ℕ → Result (Option (ℕ × ℕ × ℕ)) Refusal
find_row t table n id = first_with id (records_by t (table_rows n table))

-- on paper: the first line, the line count and the offset, or nothing where there is no such record
abbrev pub look_paper : Result (Option (ℕ × ℕ × ℕ)) Refusal → Paper
look_paper (Err r) = refused_paper r
look_paper (Ok None) = passed_paper []
look_paper (Ok (Some (l, c, o))) = passed_paper (l ∷ c ∷ o ∷ [])
