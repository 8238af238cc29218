-- How the three keys are found, as the code's own functions promise it. No definition of a public promise rests on these.
use Rattle.std.specs.Prelude.{ℕ, ◌≡◌, cond, List, ltb, get_or, None, Option, Some}
use Rattle.base_lists.specs.Lists.{same}
use Rattle.set_table.specs.Types.{Texts, max_keys, zero_row}
use Rattle.set_table.specs.declared.Row.{Row}
use Rattle.set_table.specs.declared.Slot.{Slot}
use Rattle.set_table.specs.declared.Slot.TheVariants.{Id, Class, Key}
use Rattle.set_table.specs.declared.Attrs.{Attrs}
use Rattle.set_keyed.specs.Keyed.{key_found}
use Rattle.sheet_valves.specs.Settings.{variant_name, wheel_name, valve_name}
use Rattle.sheet_valves.specs.declared.KeyRows.{KeyRows}
use Rattle.set_table.specs.declared.Value.{Value}

-- which of the three keys a name is, from 0; their count where it is none
unfoldable pub key_no : List ℕ → ℕ
key_no s = cond (same s variant_name) 0 (cond (same s wheel_name) 1 (cond (same s valve_name) 2 3))

-- the row of a slot among the first n; the id and the classes have none
abbrev pub row_no : ℕ → Slot → ℕ
row_no n Id = max_keys
row_no n Class = max_keys
row_no n (Key k) = cond (ltb k n) k max_keys

-- the value of a row, if it is one
abbrev pub keyed_at : List Row → ℕ → Option Value
keyed_at rs i = cond (ltb i max_keys) (Some (get_or rs i zero_row).value) None

-- each row is that of its key
pub record IsFound (t : Texts) (a : Attrs) (r : KeyRows) : Type 0 where
  pub variant : keyed_at a.keys r.variant ≡ key_found t a variant_name
  pub wheel : keyed_at a.keys r.wheel ≡ key_found t a wheel_name
  pub valve : keyed_at a.keys r.valve ≡ key_found t a valve_name
