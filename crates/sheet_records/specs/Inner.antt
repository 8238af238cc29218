-- What the code's own functions promise. No definition of a public promise rests on these.
use Rattle.std.specs.Prelude.{ℕ, suc, ◌+◌, ◌-◌, Bool, true, false, cond, List, [], ◌∷◌, ◌++◌, take, Option}
use Rattle.base_lists.specs.Lists.{run}
use Rattle.base_bytes.specs.Bytes.{is_digit, lf}
use Rattle.text_digits.specs.Digits.{digits_from, read_out}
use Rattle.text_digits.specs.declared.Digits as state
use Rattle.sheet_records.specs.Records.{RecordId, id_field, most_number}
use Rattle.sheet_records.specs.Computed.{least_number}
use Rattle.sheet_records.specs.declared.IndexRow.{IndexRow}

-- the number from `least` on whose digits before the place i are d, with those of s, which stands there
abbrev pub onward : ℕ → state.Digits → ℕ → List ℕ → Option (ℕ × ℕ)
onward least d i s = least_number least (i + run is_digit s) (read_out (digits_from most_number d (take (run is_digit s) s)))

-- what stands behind the numbers of a record
abbrev pub end_text : RecordId → List ℕ
end_text i = id_field i ++ (lf ∷ [])

-- the length of a line whose numbers take n bytes and whose id, if it has one, m
abbrev pub line_size : ℕ → Bool → ℕ → ℕ
line_size n given m = cond given (suc (suc (n + m))) (suc n)

-- the row of a line whose numbers end at e and behind which the next begins at `next`
abbrev pub row_to : ℕ → ℕ → ℕ → ℕ → Bool → ℕ → IndexRow
row_to l c o e true next = record { line = l; count = c; offset = o; from = suc e; to = next - 1; next = next }
row_to l c o e false next = record { line = l; count = c; offset = o; from = 0; to = 0; next = next }
