-- The table of 30 variants by 4 wheels, and what settings put into it.
use Rattle.std.specs.Prelude.{ℕ, ◌+◌, ◌-◌, ◌*◌, ◌≤◌, ◌<◌, Bool, cond, ◌&&◌, leb, ltb, get_or, set, replicate, None, Option, Some}
use mathlib.Core.List.{List, foldl}
use Rattle.sheet_valves.specs.declared.Cell.{Cell}
use Rattle.sheet_valves.specs.declared.Table.{Table}
use Rattle.sheet_valves.specs.declared.Setting.{Setting}

-- "a table of 30 variants by 4 wheels with a valve number"
abbrev pub variant_count : ℕ
variant_count = 30

abbrev pub wheels : ℕ
wheels = 4

abbrev pub cell_count : ℕ
cell_count = 120

-- "`valve` (0 to 255)"
abbrev pub max_valve : ℕ
max_valve = 255

abbrev pub unfilled : Cell
unfilled = record { valve = None }

abbrev pub empty_table : Table
empty_table = record { cells = replicate cell_count unfilled }

-- "`variant` (1 to 30), `wheel`": wheels are counted from 0
pub record IsPlace (v w : ℕ) : Type 0 where
  pub first : 1 ≤ v
  pub last : v ≤ variant_count
  pub wheel : w < wheels

abbrev pub is_place : ℕ → ℕ → Bool
is_place v w = leb 1 v && (leb v variant_count && ltb w wheels)

-- where the cell of a variant and a wheel stands: variant by variant, in each wheel by wheel
abbrev pub cell_place : ℕ → ℕ → ℕ
cell_place v w = (v - 1) * wheels + w

unfoldable pub valve_at : Table → ℕ → ℕ → Option ℕ
valve_at t v w = (get_or t.cells (cell_place v w) unfilled).valve

-- a cell as a number: its valve, or one more than any valve where it is unfilled
abbrev pub valve_no : Option ℕ → ℕ
valve_no None = max_valve + 1
valve_no (Some n) = n

abbrev pub cell_no : Cell → ℕ
cell_no c = valve_no c.valve

-- a setting is put where its variant and wheel stand; one for no cell changes nothing
unfoldable pub with_setting : Table → Setting → Table
with_setting t s =
    cond (is_place s.variant s.wheel)
    (record { cells = set t.cells (cell_place s.variant s.wheel) (record { valve = Some s.valve }) })
    t

-- "Later blocks override earlier ones of the same variant and wheel."
unfoldable pub filled_with : List Setting → Table
filled_with ss = foldl with_setting empty_table ss
