-- What the code's own functions promise. No definition of a public promise rests on these.
use Rattle.std.specs.Prelude.{ℕ, ◌+◌, ltb, length, Err, None, Ok, Option, Result, Some}
use mathlib.Core.List.{List, [], ◌∷◌, ◌++◌, flat_map}
use Rattle.base_refusals.specs.Numbers.{max_text}
use Rattle.base_refusals.specs.Orders.{Ground, in_order}
use Rattle.base_refusals.specs.declared.Refusal.TheVariants.{JoinFull}
use Rattle.set_table.specs.Types.{Texts}
use Rattle.set_table.specs.declared.Attrs.{Attrs}
use Rattle.sheet_records.specs.Records.{Record, record_line, index_text}
use Rattle.sheet_records.specs.Listed.{id_of, listed_if, records_of}
use Rattle.sheet_records.specs.Computed.{Index, not_index, rows}
use Rattle.sheet_records.specs.Writing.{put_of, line_over}
use Rattle.sheet_verdicts.specs.Verdicts.{block_verdict}
use Rattle.sheet_index.specs.Building.{room_for}
use Rattle.sheet_index.specs.Finding.{first_with, records_by}
use Rattle.sheet_index.specs.declared.Sizes.{Sizes}
use Rattle.base_refusals.specs.declared.Refusal.{Refusal}
use Rattle.sheet_records.specs.declared.IndexRow.{IndexRow}

-- the record of a block whose set is over the texts t
abbrev pub set_record : Texts → ℕ → ℕ → ℕ → Attrs → Record
set_record t n k at a = record { line = n; count = k; offset = at; id = id_of t a }

-- what it adds to the records
abbrev pub block_adds : Texts → ℕ → ℕ → ℕ → Attrs → Result (Unit {0}) Refusal → List Record
block_adds t n k at a o = listed_if (set_record t n k at a) (block_verdict t a o)

abbrev pub lines_text : List Record → List ℕ
lines_text rs = flat_map record_line rs

-- no line of a record is longer: 62 bytes for the numbers, an id within a text, a tab and the LF
abbrev pub most_line : ℕ
most_line = 65599

-- of records, their number and the bytes of their lines; and those of a whole index
abbrev pub adds_sizes : List Record → Sizes
adds_sizes rs = record { records = length rs; bytes = length (lines_text rs) }

abbrev pub sizes_of : List Record → Sizes
sizes_of rs = record { records = length rs; bytes = length (index_text rs) }

-- a look-up goes on as long as nothing is found
abbrev pub or_first : Result (Option (ℕ × ℕ × ℕ)) Refusal → Result (Option (ℕ × ℕ × ℕ)) Refusal → Result (Option (ℕ × ℕ × ℕ)) Refusal
or_first (Err r) x = Err r
or_first (Ok None) x = x
or_first (Ok (Some (l, c, o))) x = Ok (Some (l, c, o))

-- what is answered and written for what a block adds, which is one record at most
unfoldable pub put_added : ℕ → ℕ → List Record → Option IndexRow
put_added size k [] = None
put_added size k (r ∷ rs) = put_of size k r

unfoldable pub added_over : List ℕ → ℕ → List Record → List ℕ
added_over buf k [] = buf
added_over buf k (r ∷ rs) = line_over buf k r

-- the order behind 1 and 2
abbrev pub room_to_join : ℕ → List Ground
room_to_join cap = Ground.given JoinFull (ltb cap max_text) ∷ []

abbrev pub checked_order : List ℕ → ℕ → ℕ → ℕ → List Ground
checked_order t cap n size = room_to_join cap ++ room_for n size (records_of t)

unfoldable pub checked_built : List ℕ → ℕ → ℕ → ℕ → Result (ℕ × ℕ) Refusal
unfolding in_order
checked_built t cap n size = in_order Err (checked_order t cap n size) (Ok (length (records_of t), length (index_text (records_of t))))

-- n rows were counted, and x is still to be counted
abbrev pub counted_by : ℕ → Index → Result ℕ Refusal
counted_by n (not_index r) = Err r
counted_by n (rows es) = Ok (n + length es)

-- what was found, and then what the rest of the index says; a fault there is one
abbrev pub found_among : List ℕ → Result (Option (ℕ × ℕ × ℕ)) Refusal → List ℕ → Index → Result (Option (ℕ × ℕ × ℕ)) Refusal
found_among t found id (not_index r) = Err r
found_among t found id (rows es) = or_first found (first_with id (records_by t es))
