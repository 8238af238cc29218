-- A table that holds its rows, and what a put does to both: one law for each store that code makes.
-- Assumes nothing.
use mathlib.Core.Path.{◌≡◌, refl, sym, ◌∙◌, ap}
use mathlib.Core.Bool.{true, false}
use mathlib.Core.List.{List, [], ◌∷◌, ◌++◌, map, map-append}
use Prim.Native.Nat.{ℕ, ◌+◌, ◌<◌, ◌≤◌}
use native.Mathlib.Omega.{arith}
use lib.ListN.{length, get_or, set, take, length-append, length-map, length-set}
use lib.Seq.{take-append_seam}
use Rattle.base_lists.proofs.Each.{is_some_lem, is_none}
use Rattle.set_table.specs.declared.Value.{Value}
use Rattle.set_table.specs.declared.Name.{Name}
use Rattle.set_table.specs.declared.Row.{Row}
use Rattle.set_table.specs.declared.Slot.{Slot}
use Rattle.set_table.specs.declared.Slot.TheVariants as slot
use Rattle.set_table.specs.declared.Attrs.{Attrs}
use Rattle.set_table.specs.Types.{Texts, max_classes, max_keys, max_slots, zero_value, zero_row, zero_slot, empty_set}
use Rattle.set_table.specs.Rows.{Rows, Put, no_rows, is_there, has_key, key_at, put_row, with_put, padded, held, table_of, rows_in}
use Rattle.set_table.specs.Inner.{Holds}
use Rattle.set_table.proofs.Table.{padded_more, padded-set, padded_get}
use Rattle.set_table.proofs.Keys.{key_le, key_none, key_some}
use Rattle.set_table.proofs.Puts.{shaped_none, shaped_put, slots, id_room, class_room, key_room}
use Rattle.set_table.proofs.Whole.{rows_table}

-- ---- the stores that the code makes
abbrev with_id : Attrs → Value → Attrs
with_id a v = record { id = v; given = true; nclass = a.nclass; nkey = a.nkey; norder = a.norder; classes = a.classes; keys = a.keys; order = a.order }

abbrev with_slot : Attrs → Slot → Attrs
with_slot a k = record { id = a.id; given = a.given; nclass = a.nclass; nkey = a.nkey; norder = a.norder + 1; classes = a.classes; keys = a.keys; order = set a.order a.norder (held k) }

abbrev with_class : Attrs → Value → Attrs
with_class a v = record { id = a.id; given = a.given; nclass = a.nclass + 1; nkey = a.nkey; norder = a.norder; classes = set a.classes a.nclass v; keys = a.keys; order = a.order }

abbrev with_row : Attrs → ℕ → Row → Attrs
with_row a k r = record { id = a.id; given = a.given; nclass = a.nclass; nkey = a.nkey; norder = a.norder; classes = a.classes; keys = set a.keys k r; order = a.order }

abbrev with_key : Attrs → Row → Attrs
with_key a r = record { id = a.id; given = a.given; nclass = a.nclass; nkey = a.nkey + 1; norder = a.norder; classes = a.classes; keys = set a.keys a.nkey r; order = a.order }

-- ---- each is what a put does to the rows
slot_more : (o : List Slot) (k : Slot) → length o < max_slots → set (padded max_slots zero_slot (map held o)) (length o) (held k) ≡ padded max_slots zero_slot (map held (o ++ (k ∷ [])))
slot_more o k h = rw (map-append, ← length-map o held) (padded_more max_slots zero_slot (map held o) (held k) (omega (arith, length-map o held)))

pub holds_none : Holds empty_set no_rows
unfolding table_of padded
holds_none = record { is = refl; classes = omega arith; keys = omega arith; each = shaped_none }

module _ {a : Attrs} {r : Rows} (h : Holds a r) where
  there : a.given ≡ is_there r.ident
  unfolding table_of
  there = rw h.is

  pub nclass : a.nclass ≡ length r.classes
  unfolding table_of
  nclass = rw h.is

  nkey : a.nkey ≡ length r.keys
  unfolding table_of
  nkey = rw h.is

  norder : a.norder ≡ length r.order
  unfolding table_of
  norder = rw h.is

  -- the rows that it holds are its own
  pub rows_of : rows_in a ≡ r
  rows_of = ap rows_in h.is ∙ rows_table r

  pub held_own : Holds a (rows_in a)
  held_own = rw rows_of h

  first_keys : take a.nkey a.keys ≡ r.keys
  unfolding table_of padded
  first_keys = rw h.is (take-append_seam r.keys _)

  -- the counts fit, and a new slot has room
  pub few : (a.nclass ≤ max_classes) × (a.nkey ≤ max_keys) × (a.norder ≤ max_slots)
  few = omega (arith, nclass, nkey, norder, h.classes, h.keys, slots h.each h.keys)

  pub room_id : a.given ≡ false → a.norder < max_slots
  room_id e = omega (arith, norder, id_room h.each (sym there ∙ e) h.keys)

  pub room_class : a.nclass ≤ 0 → a.norder < max_slots
  room_class e = omega (arith, norder, class_room h.each (is_none r.classes (omega (arith, nclass))) h.keys)

  pub room_key : a.nkey < max_keys → a.norder < max_slots
  room_key e = omega (arith, norder, key_room h.each (omega (arith, nkey)))

  -- where a key was looked for
  module _ (t : Texts) (n : Name) {k : ℕ} (f : k ≡ key_at t n (take a.nkey a.keys)) where
    found : k ≡ key_at t n r.keys
    found = f ∙ (rw first_keys)

    pub key_within : k ≤ a.nkey
    key_within = omega (arith, nkey, found, key_le t n r.keys)

  -- ---- what a put does
  module _ (t : Texts) (v : Value) where
    pub id_again : a.given ≡ true → Holds (with_id a v) (with_put t r (Put.ident v))
    unfolding table_of with_put
    id_again e = record { is = rw (h.is, sym there ∙ e); classes = h.classes; keys = h.keys; each = shaped_put t (Put.ident v) h.each }

    pub id_first : a.given ≡ false → Holds (with_slot (with_id a v) slot.Id) (with_put t r (Put.ident v))
    unfolding table_of with_put
    id_first e =
        let z : length r.order < max_slots = omega (arith, norder, room_id e) in
        record {
          is = rw (h.is, sym there ∙ e, slot_more r.order slot.Id z, length-append r.order (slot.Id ∷ []));
          classes = h.classes;
          keys = h.keys;
          each = shaped_put t (Put.ident v) h.each;
        }

    -- a class more
    pub class_count : length (with_put t r (Put.class v)).classes ≡ a.nclass + 1
    unfolding with_put
    class_count = omega (arith, nclass, length-append r.classes (v ∷ []))

    class_put : {b : Attrs} → a.nclass < max_classes → b ≡ table_of (with_put t r (Put.class v)) → Holds b (with_put t r (Put.class v))
    unfolding with_put
    class_put l e = record { is = e; classes = omega (arith, class_count); keys = h.keys; each = shaped_put t (Put.class v) h.each }

    pub class_again : a.nclass < max_classes → 0 < a.nclass → Holds (with_class a v) (with_put t r (Put.class v))
    unfolding table_of with_put
    class_again l n =
        let y : length r.classes < max_classes = omega (arith, nclass) in
        class_put l (rw (h.is, is_some_lem r.classes (omega (arith, nclass)), padded_more max_classes zero_value r.classes v y, length-append r.classes (v ∷ [])))

    pub class_first : a.nclass < max_classes → a.nclass ≤ 0 → Holds (with_slot (with_class a v) slot.Class) (with_put t r (Put.class v))
    unfolding table_of with_put
    class_first l n =
        let y : length r.classes < max_classes = omega (arith, nclass) in
        let z : length r.order < max_slots = omega (arith, norder, room_class n) in
        let p = padded_more max_classes zero_value r.classes v y in
        let o = slot_more r.order slot.Class z in
        class_put l (rw (h.is, is_none r.classes (omega (arith, nclass)), p, length-append r.classes (v ∷ []), o, length-append r.order (slot.Class ∷ [])))

    -- a key, which was looked for
    module _ (n : Name) {k : ℕ} (f : k ≡ key_at t n (take a.nkey a.keys)) where
      pub key_again : k < a.nkey → Holds (with_row a k (record { name = (get_or a.keys k zero_row).name; value = v })) (with_put t r (Put.key n v))
      unfolding table_of with_put
      key_again l =
          let y : k < length r.keys = omega (arith, nkey) in
          let z = key_some t n v r.keys (rw (← found t n f) y) in
          let w : put_row t n v r.keys ≡ set r.keys k (record { name = (get_or r.keys k zero_row).name; value = v }) = rw (found t n f) z.1 in
          let p = padded-set max_keys zero_row r.keys k (record { name = (get_or r.keys k zero_row).name; value = v }) y in
          record {
            is = rw (h.is, padded_get max_keys zero_row r.keys k zero_row y, p, z.0, w, length-set);
            classes = h.classes;
            keys = rw (w, length-set) h.keys;
            each = shaped_put t (Put.key n v) h.each;
          }

      new : a.nkey ≤ k → (has_key t n r.keys ≡ false) × (put_row t n v r.keys ≡ r.keys ++ (record { name = n; value = v } ∷ []))
      new l = key_none t n v r.keys (omega (arith, nkey, found t n f))

      pub key_more : a.nkey ≤ k → length (with_put t r (Put.key n v)).keys ≡ a.nkey + 1
      unfolding with_put
      key_more l = rw (new l).1 (omega (arith, nkey, length-append r.keys (record { name = n; value = v } ∷ [])))

      pub key_first : a.nkey ≤ k → a.nkey < max_keys → Holds (with_slot (with_key a (record { name = n; value = v })) (slot.Key a.nkey)) (with_put t r (Put.key n v))
      unfolding table_of with_put
      key_first l m =
          let y : length r.keys < max_keys = omega (arith, nkey) in
          let z : length r.order < max_slots = omega (arith, norder, room_key m) in
          let p = padded_more max_keys zero_row r.keys (record { name = n; value = v }) y in
          let o = slot_more r.order (slot.Key (length r.keys)) z in
          let c = length-append r.keys (record { name = n; value = v } ∷ []) in
          record {
            is = rw (h.is, (new l).0, (new l).1, p, o, c, length-append r.order (slot.Key (length r.keys) ∷ []));
            classes = h.classes;
            keys = omega (arith, key_more l);
            each = shaped_put t (Put.key n v) h.each;
          }
