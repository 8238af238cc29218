-- How an index is read, by places. It needs no belief: a text is read as rows exactly where it is the index text of the records that these rows say, all in range
-- (proved_index/specs/Form).
use Rattle.std.specs.Prelude.{ℕ, zero, suc, ◌+◌, Bool, false, cond, not, ◌&&◌, List, [], ◌∷◌, ◌++◌, ltb, length, take, drop, Err, None, Ok, Option, Result, Some}
use Rattle.std.proofs.Math.Seq.{slice}
use Rattle.base_lists.specs.Lists.{run, begins, same}
use Rattle.base_bytes.specs.Bytes.{is_digit, lf, tab}
use Rattle.base_refusals.specs.Numbers.{Paper, passed_paper}
use Rattle.base_refusals.specs.Orders.{Ground, in_order}
use Rattle.base_refusals.specs.declared.Refusal.{Refusal}
use Rattle.base_refusals.specs.declared.Refusal.TheVariants.{NotAnIndex, AnotherVersion}
use Rattle.text_digits.specs.Digits.{number_in}
use Rattle.sheet_records.specs.Records.{RecordId, no_id, an_id, Record, not_lf, most_number, index_version, index_word, header_of, row_numbers}
use Rattle.sheet_records.specs.declared.IndexRow.{IndexRow}

-- ---- a number

-- a number from `least` on, and the place behind it
unfoldable pub least_number : ℕ → ℕ → Option ℕ → Option (ℕ × ℕ)
least_number least next None = None
least_number least next (Some n) = cond (ltb n least) None (Some (n, next))

unfoldable pub field_of : ℕ → ℕ → List ℕ → Option (ℕ × ℕ)
field_of least at s = least_number least (at + run is_digit s) (number_in most_number (take (run is_digit s) s))

-- the number whose digits stand at a place, as many as there are
unfoldable pub field_at : List ℕ → ℕ → ℕ → Option (ℕ × ℕ)
field_at t at least = field_of least at (drop at t)

-- ---- a record

unfoldable pub on_field : Option (ℕ × ℕ) → (ℕ → ℕ → Option IndexRow) → Option IndexRow
on_field None k = None
on_field (Some (n, at)) k = k n at

unfoldable pub behind_tab : List ℕ → ℕ → (ℕ → Option IndexRow) → Option IndexRow
behind_tab t at k = cond (begins (drop at t) tab) (k (suc at)) None

-- the id runs from its place to LF, which must be there
unfoldable pub id_end : List ℕ → ℕ → ℕ
id_end t from = from + run not_lf (drop from t)

unfoldable pub id_at : List ℕ → ℕ → ℕ → ℕ → ℕ → Option IndexRow
id_at t line count offset from =
    cond (ltb (id_end t from) (length t)) (Some (record { line = line; count = count; offset = offset; from = from; to = id_end t from; next = suc (id_end t from) })) None

-- behind the offset: LF, or a tab and the id
unfoldable pub end_at : List ℕ → ℕ → ℕ → ℕ → ℕ → Option IndexRow
end_at t line count offset at =
    cond (begins (drop at t) lf) (Some (record { line = line; count = count; offset = offset; from = 0; to = 0; next = suc at }))
    (behind_tab t at (id_at t line count offset))

unfoldable pub offset_at : List ℕ → ℕ → ℕ → ℕ → Option IndexRow
offset_at t line count at = on_field (field_at t at 0) (end_at t line count)

unfoldable pub count_at : List ℕ → ℕ → ℕ → Option IndexRow
count_at t line at = on_field (field_at t at 1) (λ n p. behind_tab t p (offset_at t line n))

-- the record whose line begins at a place
unfoldable pub record_at : List ℕ → ℕ → Option IndexRow
record_at t at = on_field (field_at t at 1) (λ n p. behind_tab t p (count_at t n))

-- on paper: the row and where the next begins, or nothing where no record stands there
abbrev pub row_paper : Option IndexRow → Paper
row_paper None = passed_paper []
row_paper (Some e) = passed_paper (e.next ∷ row_numbers e)

-- ---- what a row says of the index text t; what lies past its end is left out

-- no id stands at place 0
abbrev pub id_in : List ℕ → ℕ → ℕ → RecordId
id_in t zero to = no_id
id_in t (suc from) to = an_id (slice (suc from) to t)

abbrev pub record_in : List ℕ → IndexRow → Record
record_in t e = record { line = e.line; count = e.count; offset = e.offset; id = id_in t e.from e.to }

-- ---- an index

-- a text read as an index: why it isn't one, or the rows of its records
pub data Index : Type 0 where
  not_index : Refusal → Index
  rows : List IndexRow → Index

abbrev pub with_row : IndexRow → Index → Index
with_row e (not_index r) = not_index r
with_row e (rows es) = rows (e ∷ es)

unfoldable pub on_row : Option IndexRow → (ℕ → Index) → Index
on_row None k = not_index NotAnIndex
on_row (Some e) k = with_row e (k e.next)

-- the rows from a place to the end, in at most `left` steps
unfoldable pub rows_from : ℕ → List ℕ → ℕ → Index
rows_from zero t at = not_index NotAnIndex
rows_from (suc left) t at = cond (ltb at (length t)) (on_row (record_at t at) (rows_from left t)) (rows [])

-- ---- the first line

-- it is that of the version v
abbrev pub is_headed_by : ℕ → List ℕ → Bool
is_headed_by v t = same (take (length (header_of v)) t) (header_of v)

abbrev pub is_headed : List ℕ → Bool
is_headed t = is_headed_by index_version t

-- what stands before the number
abbrev pub head_front : List ℕ
head_front = index_word ++ (tab ∷ [])

-- a number was read, and an LF stands behind it
abbrev pub ends_line : List ℕ → Option (ℕ × ℕ) → Bool
ends_line t None = false
ends_line t (Some (n, p)) = begins (drop p t) lf

-- it is, with its LF, that of some version: "Numbers are decimal, at most 65,535, no leading zero"
unfoldable pub is_numbered : List ℕ → Bool
is_numbered t = same (take (length head_front) t) head_front && ends_line t (field_at t (length head_front) 0)

-- "16 first line right but for another number": for another than v
unfoldable pub is_other : ℕ → List ℕ → Bool
is_other v t = is_numbered t && not (is_headed_by v t)

-- a reader of version 1 knows no 16: "a display of last season must refuse version 2 by its header", and for it 14 was every first line but its own
abbrev pub other_told : ℕ → Refusal
other_told v = cond (ltb v 2) NotAnIndex AnotherVersion

-- "before 14"
abbrev pub head_order : ℕ → List ℕ → List Ground
head_order v t = Ground.given (other_told v) (is_other v t) ∷ Ground.lacking NotAnIndex (is_headed_by v t) ∷ []

unfoldable pub head_in : ℕ → List ℕ → Result (Unit {0}) Refusal
unfolding in_order
head_in v t = in_order Err (head_order v t) (Ok tt)

abbrev pub head_of : List ℕ → Result (Unit {0}) Refusal
head_of t = head_in index_version t

-- ---- the whole, by a reader of the version v

abbrev pub index_by : ℕ → List ℕ → Result (Unit {0}) Refusal → Index
index_by v t (Err r) = not_index r
index_by v t (Ok _) = rows_from (suc (length t)) t (length (header_of v))

unfoldable pub read_index_of : ℕ → List ℕ → Index
read_index_of v t = index_by v t (head_in v t)

abbrev pub read_index : List ℕ → Index
read_index t = read_index_of index_version t
