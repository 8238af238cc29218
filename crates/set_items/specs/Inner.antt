-- What private functions promise: the items of a set slot by slot. Nothing that a reader of the public promises has to believe.
use Rattle.std.specs.Prelude.{Bool, cond, ℕ, get_or, take, None, Option, Some}
use mathlib.Core.List.{List, [], ◌∷◌, map, flat_map}
use Rattle.base_lists.specs.Lists.{same}
use Rattle.set_table.specs.Types.{Texts, zero_row}
use Rattle.set_table.specs.Rows.{slot_entry, rows_in}
use Rattle.set_table.specs.declared.Slot as slots
use Rattle.set_table.specs.declared.Slot.TheVariants as slot
use Rattle.set_table.specs.declared.Attrs.{Attrs}
use Rattle.set_items.specs.declared.Item as items
use Rattle.set_items.specs.declared.Item.TheVariants.{Missing, Id, Class, Key}
use Rattle.set_table.specs.declared.Slot.{Slot}

-- the items that a slot lists
unfoldable pub slot_items : Attrs → slots.Slot → List items.Item
slot_items a slot.Id = cond a.given (Id a.id ∷ []) []
slot_items a slot.Class = map Class (take a.nclass a.classes)
slot_items a (slot.Key k) = Key (get_or (take a.nkey a.keys) k zero_row) ∷ []

-- those of a set
unfoldable pub items_in : Attrs → List items.Item
items_in a = flat_map (slot_items a) (rows_in a).order

-- the n-th of them
unfoldable pub item_of : ℕ → List items.Item → items.Item
item_of n xs = get_or xs n Missing

-- the first slot that has the name
unfoldable pub slot_named : Texts → Attrs → List ℕ → slots.Slot → Bool
slot_named t a n s = same (slot_entry t (rows_in a) s).name n

unfoldable pub first_slot : (slots.Slot → Bool) → List slots.Slot → Option Slot
first_slot f [] = None
first_slot f (s ∷ o) = cond (f s) (Some s) (first_slot f o)
