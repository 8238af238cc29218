-- The value of a key by its literal name: in any table it is what the meaning has under the name, for each name that a key may have.
use Rattle.std.specs.Prelude.{ℕ, cond, List, [], ◌∷◌, get_or, None, Option, Some}
use Rattle.base_lists.specs.Lists.{same}
use Rattle.base_refusals.specs.Numbers.{Paper, passed_paper}
use Rattle.set_table.specs.Types.{Texts, zero_row, name_bytes, value_bytes}
use Rattle.set_table.specs.Rows.{rows_in}
use Rattle.set_table.specs.declared.Row.{Row}
use Rattle.set_table.specs.declared.Slot.{Slot}
use Rattle.set_table.specs.declared.Slot.TheVariants.{Id, Class, Key}
use Rattle.set_table.specs.declared.Attrs.{Attrs}
use Rattle.set_table.specs.declared.Value.{Value}

-- the values that an answer stands for, as a meaning has them: one or none
abbrev pub values_by : Texts → Option Value → List (List ℕ)
values_by t None = []
values_by t (Some v) = value_bytes t v ∷ []

-- on paper: whether there is one, yes and no as 1 and 0, and its bytes
abbrev pub keyed_paper : Texts → Option Value → Paper
keyed_paper t None = passed_paper (0 ∷ [])
keyed_paper t (Some v) = passed_paper (1 ∷ value_bytes t v)

-- ---- how it is found. By a rule: proved_valves/specs/Keys.

-- the id and the classes are no keys
unfoldable pub slot_found : Texts → List Row → List ℕ → Slot → Option Value
slot_found t rs n Id = None
slot_found t rs n Class = None
slot_found t rs n (Key k) = cond (same (name_bytes t (get_or rs k zero_row).name) n) (Some (get_or rs k zero_row).value) None

abbrev pub or_keyed : Option Value → Option Value → Option Value
or_keyed None r = r
or_keyed (Some v) r = Some v

-- the first that is there
unfoldable pub first_by : {A : Type 0} → (A → Option Value) → List A → Option Value
first_by f [] = None
first_by f (x ∷ xs) = or_keyed (f x) (first_by f xs)

unfoldable pub key_in : Texts → List Row → List ℕ → List Slot → Option Value
key_in t rs n o = first_by (slot_found t rs n) o

unfoldable pub key_found : Texts → Attrs → List ℕ → Option Value
key_found t a n = key_in t (rows_in a).keys n (rows_in a).order
