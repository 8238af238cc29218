-- The rows of a set without its limits, how a set is put together row by row, and what it means.
use Rattle.std.specs.Prelude.{ℕ, suc, ◌-◌, Bool, true, false, cond, ◌||◌, length, get_or, take, replicate}
use mathlib.Core.List.{List, [], ◌∷◌, ◌++◌, map, foldl}
use Rattle.base_lists.specs.Lists.{is_some, same}
use Rattle.block_grammar.specs.Meaning.{Entry, id_name, class_name, classes_once}
use Rattle.set_table.specs.Types.{Texts, name_bytes, value_bytes, max_classes, max_keys, max_slots, zero_value, zero_row, zero_slot}
use Rattle.set_table.specs.declared.Value.{Value}
use Rattle.set_table.specs.declared.Name.{Name}
use Rattle.set_table.specs.declared.Row.{Row}
use Rattle.set_table.specs.declared.Slot as slots
use Rattle.set_table.specs.declared.Slot.TheVariants as slot
use Rattle.set_table.specs.declared.SlotRecord.{SlotRecord}
use Rattle.set_table.specs.declared.Attrs.{Attrs}

-- an id, or none
pub data Ident : Type 0 where
  missing : Ident
  given : Value → Ident

pub record Rows : Type 0 where
  pub ident : Ident
  pub classes : List Value
  pub keys : List Row
  pub order : List slots.Slot

abbrev pub no_rows : Rows
no_rows = record { ident = Ident.missing; classes = []; keys = []; order = [] }

-- ---- putting one thing into a set: "Slots: Id, Class and each key stand once, where first met."

pub data Put : Type 0 where
  ident : Value → Put
  class : Value → Put
  key : Name → Value → Put

abbrev pub is_there : Ident → Bool
is_there Ident.missing = false
is_there (Ident.given v) = true

-- a slot goes behind, where it isn't there yet
abbrev pub slot_unless : Bool → List slots.Slot → slots.Slot → List slots.Slot
slot_unless true o k = o
slot_unless false o k = o ++ (k ∷ [])

-- "names compare as bytes"
abbrev pub is_named : Texts → Name → Row → Bool
is_named t n r = same (name_bytes t r.name) (name_bytes t n)

unfoldable pub has_key : Texts → Name → List Row → Bool
has_key t n [] = false
has_key t n (r ∷ rs) = is_named t n r || has_key t n rs

-- the row that has the name, counted from 0; the number of rows where none has
unfoldable pub key_at : Texts → Name → List Row → ℕ
key_at t n [] = 0
key_at t n (r ∷ rs) = cond (is_named t n r) 0 (suc (key_at t n rs))

-- "a key met again keeps its row and first name", and its last value wins
unfoldable pub put_row : Texts → Name → Value → List Row → List Row
put_row t n v [] = record { name = n; value = v } ∷ []
put_row t n v (r ∷ rs) = cond (is_named t n r) (record { name = r.name; value = v } ∷ rs) (r ∷ put_row t n v rs)

-- "The last id and the last value of a key win."
unfoldable pub with_put : Texts → Rows → Put → Rows
with_put t s (Put.ident v) = record { ident = Ident.given v; classes = s.classes; keys = s.keys; order = slot_unless (is_there s.ident) s.order slot.Id }
with_put t s (Put.class v) = record { ident = s.ident; classes = s.classes ++ (v ∷ []); keys = s.keys; order = slot_unless (is_some s.classes) s.order slot.Class }
with_put t s (Put.key n v) = record { ident = s.ident; classes = s.classes; keys = put_row t n v s.keys; order = slot_unless (has_key t n s.keys) s.order (slot.Key (length s.keys)) }

unfoldable pub with_puts : Texts → Rows → List Put → Rows
with_puts t s ps = foldl (with_put t) s ps

-- ---- what the rows mean: the slots in order, each with its name and values, as bytes

abbrev pub id_values : Texts → Ident → List (List ℕ)
id_values t Ident.missing = []
id_values t (Ident.given v) = value_bytes t v ∷ []

unfoldable pub slot_entry : Texts → Rows → slots.Slot → Entry
slot_entry t s slot.Id = record { name = id_name; values = id_values t s.ident }
slot_entry t s slot.Class = record { name = class_name; values = map (value_bytes t) s.classes }
slot_entry t s (slot.Key k) = record { name = name_bytes t (get_or s.keys k zero_row).name; values = value_bytes t (get_or s.keys k zero_row).value ∷ [] }

-- what rows list, slot by slot
unfoldable pub meant : Texts → Rows → List Entry
meant t s = map (slot_entry t s) s.order

-- ---- the table: the rows in their arrays, zero past the counts

unfoldable pub padded : {A : Type 0} → ℕ → A → List A → List A
padded n z xs = xs ++ replicate (n - length xs) z

abbrev pub held : slots.Slot → SlotRecord
held k = record { slot = k }

-- the id's value, zero where there is none
abbrev pub id_or : Ident → Value
id_or Ident.missing = zero_value
id_or (Ident.given v) = v

unfoldable pub table_of : Rows → Attrs
table_of s =
    record {
      id = id_or s.ident;
      given = is_there s.ident;
      nclass = length s.classes;
      nkey = length s.keys;
      norder = length s.order;
      classes = padded max_classes zero_value s.classes;
      keys = padded max_keys zero_row s.keys;
      order = padded max_slots zero_slot (map held s.order);
    }

-- ---- the rows of a table: those that count

abbrev pub slot_in : SlotRecord → slots.Slot
slot_in r = r.slot

unfoldable pub rows_in : Attrs → Rows
rows_in a = record { ident = cond a.given (Ident.given a.id) Ident.missing; classes = take a.nclass a.classes; keys = take a.nkey a.keys; order = map slot_in (take a.norder a.order) }

-- what a table lists over its texts: "Reading and merging still list every class"
unfoldable pub listed_of : Texts → Attrs → List Entry
listed_of t a = meant t (rows_in a)

-- and what it means: "a class equal byte for byte to an earlier one doesn't count"
unfoldable pub meaning_of : Texts → Attrs → List Entry
meaning_of t a = classes_once (listed_of t a)
