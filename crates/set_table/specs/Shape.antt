-- What holds of the rows of a set however it was put together: "keys .. distinct, not `id` or `class`; .. slots name exactly the Id, Class and
-- keys present, once each."
use Rattle.std.specs.Prelude.{◌≡◌, ℕ, suc, ◌<◌, Bool, true, cond, not, ◌&&◌, List, [], ◌∷◌, eqb, ltb, length, get_or}
use Rattle.base_lists.specs.Lists.{same, is_some}
use Rattle.block_grammar.specs.Meaning.{id_name, class_name}
use Rattle.set_table.specs.Types.{Texts, name_bytes, zero_row}
use Rattle.set_table.specs.Rows.{Rows, is_there}
use Rattle.set_table.specs.declared.Row.{Row}
use Rattle.set_table.specs.declared.Slot.{Slot}
use Rattle.set_table.specs.declared.Slot.TheVariants.{Id, Class, Key}

-- Id, Class, then the keys by row
abbrev pub slot_number : Slot → ℕ
slot_number Id = 0
slot_number Class = 1
slot_number (Key k) = suc (suc k)

abbrev pub is_slot : Slot → Slot → Bool
is_slot x y = eqb (slot_number x) (slot_number y)

-- how often an order names a slot
unfoldable pub times : Slot → List Slot → ℕ
times x [] = 0
times x (y ∷ o) = cond (is_slot x y) (suc (times x o)) (times x o)

abbrev pub is_present : Rows → Slot → Bool
is_present s Id = is_there s.ident
is_present s Class = is_some s.classes
is_present s (Key k) = ltb k (length s.keys)

-- the name of the key of a row
unfoldable pub name_at : Texts → List Row → ℕ → List ℕ
name_at t rs k = name_bytes t (get_or rs k zero_row).name

-- a key may have the name
unfoldable pub is_free : List ℕ → Bool
is_free n = not (same n id_name) && not (same n class_name)

pub record Shaped (t : Texts) (s : Rows) : Type 0 where
  pub once : (x : Slot) → times x s.order ≡ cond (is_present s x) 1 0
  pub free : (k : ℕ) → k < length s.keys → is_free (name_at t s.keys k) ≡ true
  pub apart : (j k : ℕ) → j < length s.keys → k < length s.keys → same (name_at t s.keys j) (name_at t s.keys k) ≡ true → j ≡ k
