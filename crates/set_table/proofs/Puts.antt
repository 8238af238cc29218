-- What puts do to rows, counted: how many classes, keys and slots there are behind them. There is one slot for the id, one for the classes and one for
-- each key, so 64 keys have room among 66 slots.
-- Assumes nothing.
use mathlib.Core.Path.{◌≡◌, refl}
use mathlib.Core.Bool.{Bool, true, false, cond, ◌||◌}
use mathlib.Core.List.{List, [], ◌∷◌, ◌++◌}
use Prim.Native.Nat.{◌+◌, ◌<◌, ◌≤◌}
use native.Mathlib.Omega.{arith}
use lib.ListN.{length, length-append}
use Rattle.base_lists.specs.Lists.{is_some}
use Rattle.base_lists.proofs.Each.{some_after}
use Rattle.set_table.specs.declared.Value.{Value}
use Rattle.set_table.specs.declared.Name.{Name}
use Rattle.set_table.specs.declared.Row.{Row}
use Rattle.set_table.specs.declared.Slot.{Slot}
use Rattle.set_table.specs.declared.Slot.TheVariants as slot
use Rattle.set_table.specs.Types.{Texts, name_bytes, max_keys, max_slots}
use Rattle.set_table.specs.Rows.{Rows, Put, no_rows, is_there, slot_unless, is_named, has_key, put_row, with_put, with_puts}
use Rattle.set_table.specs.Shape.{is_free}
use Rattle.set_table.specs.Inner.{OneEach}

-- "Keys `id` and `class` .. go to the id and the classes": no put of a key has such a name
unfoldable pub is_allowed : Texts → Put → Bool
is_allowed t (Put.ident v) = true
is_allowed t (Put.class v) = true
is_allowed t (Put.key n v) = is_free (name_bytes t n)

-- ---- puts behind puts
pub puts-after : (t : Texts) (s : Rows) (ps qs : List Put) → with_puts t s (ps ++ qs) ≡ with_puts t (with_puts t s ps) qs
unfolding with_puts
puts-after t s [] qs = refl
puts-after t s (p ∷ ps) qs = puts-after t (with_put t s p) ps qs

-- ---- a key is there once, and so is what has a slot
pub one_le : (b : Bool) → cond b 1 0 ≤ 1
one_le true = omega arith
one_le false = omega arith

pub key_count : (t : Texts) (n : Name) (v : Value) (rs : List Row) → length (put_row t n v rs) + cond (has_key t n rs) 1 0 ≡ length rs + 1
unfolding put_row has_key
key_count t n v [] = refl
key_count t n v (r ∷ rs) = go (is_named t n r) (key_count t n v rs)
  where
    go : (b : Bool) → length (put_row t n v rs) + cond (has_key t n rs) 1 0 ≡ length rs + 1
        → length (cond b (record { name = r.name; value = v } ∷ rs) (r ∷ put_row t n v rs)) + cond (b || has_key t n rs) 1 0 ≡ length (r ∷ rs) + 1
    go true ih = refl
    go false ih = omega arith

-- ---- how many classes and keys there are
module _ (t : Texts) where
  pub put_grows : (s : Rows) (p : Put) → (length s.classes ≤ length (with_put t s p).classes) × (length s.keys ≤ length (with_put t s p).keys)
  unfolding with_put
  put_grows s (Put.ident v) = omega arith
  put_grows s (Put.class v) = omega (arith, length-append s.classes (v ∷ []))
  put_grows s (Put.key n v) = omega (arith, key_count t n v s.keys, one_le (has_key t n s.keys))

  pub puts_grow : (s : Rows) (ps : List Put) → (length s.classes ≤ length (with_puts t s ps).classes) × (length s.keys ≤ length (with_puts t s ps).keys)
  unfolding with_puts
  puts_grow s [] = omega arith
  puts_grow s (p ∷ ps) = omega (arith, put_grows s p, puts_grow (with_put t s p) ps)

-- ---- how many slots: one for each thing, and so it stays as things are put
slot_count : (b : Bool) (o : List Slot) (k : Slot) → length (slot_unless b o k) + cond b 1 0 ≡ length o + 1
slot_count true o k = refl
slot_count false o k = omega (arith, length-append o (k ∷ []))

pub shaped_put : (t : Texts) {s : Rows} (p : Put) → OneEach s → OneEach (with_put t s p)
unfolding with_put
shaped_put t {s} (Put.ident v) h = record { is = omega (arith, h.is, slot_count (is_there s.ident) s.order slot.Id) }
shaped_put t {s} (Put.class v) h = record { is = rw (some_after s.classes v) (omega (arith, h.is, slot_count (is_some s.classes) s.order slot.Class)) }
shaped_put t {s} (Put.key n v) h = record { is = omega (arith, h.is, slot_count (has_key t n s.keys) s.order (slot.Key (length s.keys)), key_count t n v s.keys) }

pub shaped_none : OneEach no_rows
shaped_none = record { is = refl }

-- ---- "66 slots" are slots
pub slots : {s : Rows} → OneEach s → length s.keys ≤ max_keys → length s.order ≤ max_slots
slots {s} h k = omega (arith, h.is, one_le (is_there s.ident), one_le (is_some s.classes))

-- a slot more has room
module _ {s : Rows} (h : OneEach s) where
  pub id_room : is_there s.ident ≡ false → length s.keys ≤ max_keys → length s.order < max_slots
  id_room e k = omega (arith, rw e at h.is, one_le (is_some s.classes))

  pub class_room : is_some s.classes ≡ false → length s.keys ≤ max_keys → length s.order < max_slots
  class_room e k = omega (arith, rw e at h.is, one_le (is_there s.ident))

  pub key_room : length s.keys < max_keys → length s.order < max_slots
  key_room k = omega (arith, h.is, one_le (is_there s.ident), one_le (is_some s.classes))
