-- "A block counts if it has keys `variant` (1 to 30), `wheel` (..) and `valve` (0 to 255), unescaped, decimal, no leading zero."
use Rattle.std.specs.Prelude.{ℕ, cond, List, [], ◌∷◌, None, Option, Some, Err, Ok, Result}
use Rattle.base_lists.specs.Lists.{same}
use Rattle.base_refusals.specs.Numbers.{Paper, refused_paper, passed_paper}
use Rattle.base_refusals.specs.declared.Refusal.TheVariants.{BadSetting}
use Rattle.block_grammar.specs.Meaning.{Entry, lookup}
use Rattle.text_digits.specs.Digits.{number_in}
use Rattle.sheet_valves.specs.Tables.{variant_count, wheels, max_valve, is_place}
use Rattle.base_refusals.specs.declared.Refusal.{Refusal}
use Rattle.sheet_valves.specs.declared.Setting.{Setting}

-- "keys `variant` .., `wheel` .. and `valve`"
abbrev pub variant_name : List ℕ
variant_name = 118 ∷ 97 ∷ 114 ∷ 105 ∷ 97 ∷ 110 ∷ 116 ∷ []

abbrev pub wheel_name : List ℕ
wheel_name = 119 ∷ 104 ∷ 101 ∷ 101 ∷ 108 ∷ []

abbrev pub valve_name : List ℕ
valve_name = 118 ∷ 97 ∷ 108 ∷ 118 ∷ 101 ∷ []

-- "`front-left`, `front-right`, `rear-left`, `rear-right`"
abbrev pub front_left : List ℕ
front_left = 102 ∷ 114 ∷ 111 ∷ 110 ∷ 116 ∷ 45 ∷ 108 ∷ 101 ∷ 102 ∷ 116 ∷ []

abbrev pub front_right : List ℕ
front_right = 102 ∷ 114 ∷ 111 ∷ 110 ∷ 116 ∷ 45 ∷ 114 ∷ 105 ∷ 103 ∷ 104 ∷ 116 ∷ []

abbrev pub rear_left : List ℕ
rear_left = 114 ∷ 101 ∷ 97 ∷ 114 ∷ 45 ∷ 108 ∷ 101 ∷ 102 ∷ 116 ∷ []

abbrev pub rear_right : List ℕ
rear_right = 114 ∷ 101 ∷ 97 ∷ 114 ∷ 45 ∷ 114 ∷ 105 ∷ 103 ∷ 104 ∷ 116 ∷ []

-- ---- how it is read. By rules: proved_valves/specs/Settings.

-- the wheel of a name, from 0; no wheel's number where it names none
unfoldable pub wheel_of : List ℕ → ℕ
wheel_of s = cond (same s front_left) 0 (cond (same s front_right) 1 (cond (same s rear_left) 2 (cond (same s rear_right) 3 wheels)))

unfoldable pub setting_from : ℕ → ℕ → ℕ → Result (Option Setting) Refusal
setting_from v w x = cond (is_place v w) (Ok (Some (record { variant = v; wheel = w; valve = x }))) (Err BadSetting)

abbrev pub settled_by : Option ℕ → ℕ → Option ℕ → Result (Option Setting) Refusal
settled_by None w x = Err BadSetting
settled_by (Some v) w None = Err BadSetting
settled_by (Some v) w (Some x) = setting_from v w x

unfoldable pub read_setting : List ℕ → List ℕ → List ℕ → Result (Option Setting) Refusal
read_setting v w x = settled_by (number_in variant_count v) (wheel_of w) (number_in max_valve x)

-- "20, one or two of the three keys missing or any out of range"
unfoldable pub setting_by : List (List ℕ) → List (List ℕ) → List (List ℕ) → Result (Option Setting) Refusal
setting_by [] [] [] = Ok None
setting_by [] [] (x ∷ xs) = Err BadSetting
setting_by [] (w ∷ ws) xs = Err BadSetting
setting_by (v ∷ vs) [] xs = Err BadSetting
setting_by (v ∷ vs) (w ∷ ws) [] = Err BadSetting
setting_by (v ∷ vs) (w ∷ ws) (x ∷ xs) = read_setting v w x

unfoldable pub setting_of : List Entry → Result (Option Setting) Refusal
setting_of m = setting_by (lookup variant_name m) (lookup wheel_name m) (lookup valve_name m)

-- on paper: why it is refused, nothing where none of the three keys is there, else variant, wheel and valve
abbrev pub heard_paper : Result (Option Setting) Refusal → Paper
heard_paper (Ok None) = passed_paper []
heard_paper (Err r) = refused_paper r
heard_paper (Ok (Some s)) = passed_paper (s.variant ∷ s.wheel ∷ s.valve ∷ [])
