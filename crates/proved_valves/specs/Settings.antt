-- "A block counts if it has keys `variant` (1 to 30), `wheel` (`front-left`, `front-right`, `rear-left`, `rear-right`) and `valve` (0 to 255), unescaped, decimal,
-- no leading zero."
use Rattle.std.specs.Prelude.{◌≡◌, true, List, [], ◌∷◌, ℕ, ◌≤◌, get_or, Err, None, Ok, Some}
use Rattle.base_refusals.specs.declared.Refusal.TheVariants.{BadSetting}
use Rattle.block_grammar.specs.Meaning.{Entry, lookup}
use Rattle.text_digits.specs.Decimal.{decimal}
use Rattle.set_table.specs.Types.{Texts}
use Rattle.set_table.specs.Rows.{meaning_of}
use Rattle.set_table.specs.declared.Attrs.{Attrs}
use Rattle.set_wellformed.specs.WellFormed.{well_formed}
use Rattle.proved_grammar.specs.Meaning.{distinct}
use Rattle.sheet_valves.specs.Tables.{max_valve, IsPlace}
use Rattle.sheet_valves.specs.Settings.{variant_name, wheel_name, valve_name, front_left, front_right, rear_left, rear_right, setting_of}
use Rattle.sheet_valves.specs.declared.Setting.{Setting}

abbrev pub wheel_names : List (List ℕ)
wheel_names = front_left ∷ front_right ∷ rear_left ∷ rear_right ∷ []

-- a meaning has the three keys, each with a value in its range; values in a meaning are unescaped
pub record Counts (m : List Entry) (s : Setting) : Type 0 where
  pub place : IsPlace s.variant s.wheel
  pub valve_range : s.valve ≤ max_valve
  pub variant_key : lookup variant_name m ≡ decimal s.variant ∷ []
  pub wheel_key : lookup wheel_name m ≡ get_or wheel_names s.wheel [] ∷ []
  pub valve_key : lookup valve_name m ≡ decimal s.valve ∷ []

-- "Blocks without any of the three keys are passed over."
pub record Silent (m : List Entry) : Type 0 where
  pub no_variant : lookup variant_name m ≡ []
  pub no_wheel : lookup wheel_name m ≡ []
  pub no_valve : lookup valve_name m ≡ []

-- of any table: it gives a setting exactly where its meaning counts as that setting
abbrev pub CountsExactly : Type 0
CountsExactly = (t : Texts) (a : Attrs) (s : Setting) → (setting_of (meaning_of t a) ≡ Ok (Some s) → Counts (meaning_of t a) s) × (Counts (meaning_of t a) s → setting_of (meaning_of t a) ≡ Ok (Some s))

abbrev pub PassedOver : Type 0
PassedOver = (m : List Entry) → (setting_of m ≡ Ok None → Silent m) × (Silent m → setting_of m ≡ Ok None)

-- "20, one or two of the three keys missing or any out of range": where it is neither
abbrev pub RefusedElse : Type 0
RefusedElse = (t : Texts) (a : Attrs) → (Silent (meaning_of t a) → ⊥) → ((s : Setting) → Counts (meaning_of t a) s → ⊥) → setting_of (meaning_of t a) ≡ Err BadSetting

-- A key's value is that of its name: in a well-formed set, as each block's is (proved_sheets/specs/Blocks), no name stands twice.
abbrev pub NameOnce : Type 0
NameOnce = (t : Texts) (a : Attrs) → well_formed t a ≡ true → distinct (meaning_of t a) ≡ true
