-- "A block counts if it has keys ..": the value of a key by its literal name, as a rule over the slots of any table. `key_found` of set_keyed/specs/Keyed computes it.
use Rattle.std.specs.Prelude.{◌≡◌, Bool, true, false, not, List, ◌∷◌, ◌++◌, ℕ, get_or, None, Option, Some}
use Rattle.base_lists.specs.Lists.{same, all}
use Rattle.set_table.specs.Types.{Texts, zero_row, name_bytes}
use Rattle.set_table.specs.Rows.{rows_in}
use Rattle.set_table.specs.declared.Row.{Row}
use Rattle.set_table.specs.declared.Slot.{Slot}
use Rattle.set_table.specs.declared.Slot.TheVariants.{Id, Class, Key}
use Rattle.set_table.specs.declared.Attrs.{Attrs}
use Rattle.set_keyed.specs.Keyed.{key_found}
use Rattle.set_table.specs.declared.Value.{Value}

-- the slot is the key of that name; the id and the classes are no keys
unfoldable pub slot_has : Texts → List Row → List ℕ → Slot → Bool
slot_has t rs n Id = false
slot_has t rs n Class = false
slot_has t rs n (Key k) = same (name_bytes t (get_or rs k zero_row).name) n

unfoldable pub none_has : Texts → List Row → List ℕ → List Slot → Bool
none_has t rs n o = all (λ s. not (slot_has t rs n s)) o

-- no slot is that key, or the value is that of the first that is: a well-formed set has one at most (`NameOnce`)
pub data KeyedIn (t : Texts) (rs : List Row) (n : List ℕ) (o : List Slot) : Option Value → Type 0 where
  missing : none_has t rs n o ≡ true → KeyedIn t rs n o None
  given : (before : List Slot) (k : ℕ) (behind : List Slot) → o ≡ before ++ (Key k ∷ behind) → none_has t rs n before ≡ true → slot_has t rs n (Key k) ≡ true
      → KeyedIn t rs n o (Some (get_or rs k zero_row).value)

-- what is found is that, and nothing else is
abbrev pub KeyByRule : Type 0
KeyByRule = (t : Texts) (a : Attrs) (n : List ℕ) (r : Option Value)
    → (r ≡ key_found t a n → KeyedIn t (rows_in a).keys n (rows_in a).order r) × (KeyedIn t (rows_in a).keys n (rows_in a).order r → r ≡ key_found t a n)
