-- Two sets over two texts made into one: "Merging: a later id wins, classes are joined, later key values win, new slots go behind."
use Rattle.std.specs.Prelude.{cond, ◌&&◌, get_or, Err, Ok, Result}
use mathlib.Core.List.{List, [], ◌∷◌, ◌++◌, map, flat_map}
use Rattle.base_refusals.specs.Orders.{Ground}
use Rattle.base_refusals.specs.declared.Refusal.TheVariants.{NotWellFormed}
use Rattle.text_checks.specs.Check.{both_order, both_of}
use Rattle.set_table.specs.Types.{Texts, zero_row}
use Rattle.set_table.specs.Rows.{Ident, Rows, Put, with_puts, rows_in}
use Rattle.set_table.specs.declared.Row.{Row}
use Rattle.set_table.specs.declared.Slot.{Slot}
use Rattle.set_table.specs.declared.Slot.TheVariants as slot
use Rattle.set_table.specs.declared.Attrs.{Attrs}
use Rattle.set_wellformed.specs.WellFormed.{table_ok}
use Rattle.set_table.specs.declared.Filled.{Filled}
use Rattle.set_table.specs.Filled.{refusing, limit_order, limited}
use Rattle.base_refusals.specs.declared.Refusal.{Refusal}

-- ---- what a set puts into another: its slots in their order, each with its values

abbrev pub puts_of_id : Ident → List Put
puts_of_id Ident.missing = []
puts_of_id (Ident.given v) = Put.ident v ∷ []

abbrev pub put_of_row : Row → Put
put_of_row r = Put.key r.name r.value

unfoldable pub puts_at : Rows → Slot → List Put
puts_at s slot.Id = puts_of_id s.ident
puts_at s slot.Class = map Put.class s.classes
puts_at s (slot.Key k) = put_of_row (get_or s.keys k zero_row) ∷ []

abbrev pub puts_by : Rows → List Put
puts_by s = flat_map (puts_at s) s.order

-- ---- the merge: "1 and 2 are checked for the first text, then 1 and 2 for the second, then 11 over both", and then "6, 7"

abbrev pub merged_by : Result (Unit {0}) Refusal → Texts → Attrs → Attrs → Filled
merged_by (Err r) t a b = refusing r
merged_by (Ok _) t a b = cond (table_ok t a && table_ok t b) (limited (with_puts t (rows_in a) (puts_by (rows_in b)))) (refusing NotWellFormed)

-- the set b merged into the set a
unfoldable pub merge_of : Texts → Attrs → Attrs → Filled
merge_of t a b = merged_by (both_of t.first t.second) t a b

abbrev pub merge_order : Texts → Attrs → Attrs → List Ground
merge_order t a b =
    both_order t.first t.second
    ++ (Ground.lacking NotWellFormed (table_ok t a && table_ok t b)
    ∷ limit_order (with_puts t (rows_in a) (puts_by (rows_in b))))
