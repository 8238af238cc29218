-- "Blocks are those that the sheet program prints as `block`.": the records of a sheet.
use Rattle.std.specs.Prelude.{ℕ, cond, Err, Ok, Result}
use mathlib.Core.List.{List, [], ◌∷◌, flat_map}
use Rattle.set_table.specs.Types.{Texts, value_bytes}
use Rattle.set_table.specs.declared.Attrs.{Attrs}
use Rattle.read_blocks.specs.Blocks.{lines_of, texts_in, filled_found}
use Rattle.sheet_blocks.specs.Sheets.{Try, blocks_of}
use Rattle.sheet_verdicts.specs.Verdicts.{verdict_at}
use Rattle.sheet_records.specs.Records.{RecordId, no_id, an_id, Record}
use Rattle.base_refusals.specs.declared.Refusal.{Refusal}

-- "the unescaped id if there is one", of a set over the texts t
unfoldable pub id_of : Texts → Attrs → RecordId
id_of t a = cond a.given (an_id (value_bytes t a.id)) no_id

-- the record of a block: its offset is that of its first line's first byte
unfoldable pub record_of : List ℕ → Try → Record
record_of t x = record { line = x.line; count = lines_of x.found; offset = x.at; id = id_of (texts_in t x.found) (filled_found t x.at x.found).set }

-- what a block adds: its record, where it is printed
abbrev pub listed_if : Record → Result (Unit {0}) Refusal → List Record
listed_if r (Ok _) = r ∷ []
listed_if r (Err q) = []

unfoldable pub added_of : List ℕ → Try → List Record
added_of t x = listed_if (record_of t x) (verdict_at t x)

-- the records of a sheet
unfoldable pub records_of : List ℕ → List Record
records_of t = flat_map (added_of t) (blocks_of t)
