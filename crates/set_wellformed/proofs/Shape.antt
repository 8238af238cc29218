-- Rows that pass the tests are shaped as those that are put together, and shaped rows pass the tests that aren't of one row alone.
-- Assumes nothing.
use mathlib.Core.Path.{◌≡◌, refl, ◌∙◌}
use mathlib.Core.Bool.{Bool, true, false, cond, ◌&&◌}
use mathlib.Core.List.{List, [], ◌∷◌}
use Prim.Native.Nat.{ℕ, zero, suc, ◌<◌}
use native.Mathlib.Omega.{arith}
use lib.Dec.{ltb}
use lib.ListN.{length}
use borrow.Author.Tests.{ltb-true, ltb-false, eqb-true}
use Rattle.base_lists.specs.Lists.{same, all}
use Rattle.base_lists.proofs.Scan.{both}
use Rattle.base_lists.proofs.Each.{all_at}
use Rattle.base_lists.proofs.More.{contra, same_sym}
use Rattle.text_names.specs.Names.{is_key}
use Rattle.set_table.specs.Types.{Texts, name_bytes, zero_row}
use Rattle.set_table.specs.Rows.{Rows, rows_in}
use Rattle.set_table.specs.Shape.{times, is_slot, is_present, name_at, is_free, Shaped}
use Rattle.set_table.specs.declared.Attrs.{Attrs}
use Rattle.set_table.specs.declared.Row.{Row}
use Rattle.set_table.specs.declared.Slot.{Slot}
use Rattle.set_table.specs.declared.Slot.TheVariants.{Id, Class, Key}
use Rattle.set_table.proofs.Slots.{slot_same}
use Rattle.set_wellformed.specs.WellFormed.{counts_ok, keys_apart, is_once, keys_once, slots_ok, rows_ok, table_ok}
use Rattle.set_values.specs.Values.{name_ok, value_ok, ident_ok, class_ok, key_ok}
use Rattle.set_wellformed.proofs.Decide.{apart_differ}

-- ---- every slot stands once where it is there, and never where it isn't
module _ (s : Rows) where
  never : (f : Slot → Bool) (x : Slot) → f x ≡ false → (o : List Slot) → all f o ≡ true → times x o ≡ 0
  unfolding all times
  never f x e [] h = refl
  never f x e (y ∷ o) h = go (is_slot x y) refl (never f x e o (both (f y) (all f o) h).1)
    where
      go : (b : Bool) → is_slot x y ≡ b → times x o ≡ 0 → cond b (suc (times x o)) (times x o) ≡ 0
      go true q ih = contra (f y) (both (f y) (all f o) h).0 (rw (slot_same x y q) at e)
      go false q ih = ih

  keys_once_lem : (n : ℕ) → keys_once s n ≡ true → (k : ℕ) → k < n → is_once s (Key k) ≡ true
  unfolding keys_once
  keys_once_lem zero e k h = absurd (omega arith)
  keys_once_lem (suc n) e k h = go (ltb k n) refl (both (is_once s (Key n)) (keys_once s n) e) (keys_once_lem n)
    where
      go : (b : Bool) → ltb k n ≡ b → (is_once s (Key n) ≡ true) × (keys_once s n ≡ true) → (keys_once s n ≡ true → (k : ℕ) → k < n → is_once s (Key k) ≡ true) → is_once s (Key k) ≡ true
      go true q p ih = ih p.1 k (ltb-true k n q)
      go false q p ih = let z : k ≡ n = omega (arith, ltb-false k n q) in rw z p.0

  pub slots_named : slots_ok s ≡ true → all (is_present s) s.order ≡ true
  unfolding slots_ok
  slots_named e = (both (all (is_present s) s.order) (is_once s Id && (is_once s Class && keys_once s (length s.keys))) e).0

  pub slots_once : slots_ok s ≡ true → (x : Slot) → times x s.order ≡ cond (is_present s x) 1 0
  unfolding slots_ok
  slots_once e = once
    where
      named : (all (is_present s) s.order ≡ true) × ((is_once s Id && (is_once s Class && keys_once s (length s.keys))) ≡ true)
      named = both _ _ e

      ids : (is_once s Id ≡ true) × ((is_once s Class && keys_once s (length s.keys)) ≡ true)
      ids = both _ _ named.1

      classes : (is_once s Class ≡ true) × (keys_once s (length s.keys) ≡ true)
      classes = both _ _ ids.1

      key : (k : ℕ) (b : Bool) → ltb k (length s.keys) ≡ b → times (Key k) s.order ≡ cond (is_present s (Key k)) 1 0
      key k true q = eqb-true _ _ (keys_once_lem (length s.keys) classes.1 k (ltb-true k (length s.keys) q))
      key k false q = never (is_present s) (Key k) q s.order named.0 ∙ rw q

      once : (x : Slot) → times x s.order ≡ cond (is_present s x) 1 0
      once Id = eqb-true _ _ ids.0
      once Class = eqb-true _ _ classes.0
      once (Key k) = key k (ltb k (length s.keys)) refl

-- ---- the tests of the rows, one by one
pub record Passed (t : Texts) (s : Rows) : Type 0 where
  pub ident : ident_ok t s.ident ≡ true
  pub classes : all (class_ok t) s.classes ≡ true
  pub keys : all (key_ok t) s.keys ≡ true
  pub apart : keys_apart t s.keys ≡ true
  pub slots : slots_ok s ≡ true

pub rows_passed : (t : Texts) (s : Rows) → rows_ok t s ≡ true → Passed t s
unfolding rows_ok
rows_passed t s e =
    let a = both (ident_ok t s.ident) (all (class_ok t) s.classes && (all (key_ok t) s.keys && (keys_apart t s.keys && slots_ok s))) e in
    let b = both (all (class_ok t) s.classes) (all (key_ok t) s.keys && (keys_apart t s.keys && slots_ok s)) a.1 in
    let c = both (all (key_ok t) s.keys) (keys_apart t s.keys && slots_ok s) b.1 in
    let d = both (keys_apart t s.keys) (slots_ok s) c.1 in
    record { ident = a.0; classes = b.0; keys = c.0; apart = d.0; slots = d.1 }

-- the tests of one row
pub record Keyed (t : Texts) (r : Row) : Type 0 where
  pub range : name_ok t r.name ≡ true
  pub key : is_key (name_bytes t r.name) ≡ true
  pub free : is_free (name_bytes t r.name) ≡ true
  pub value : value_ok t r.value ≡ true

module _ {t : Texts} {r : Row} where
  pub keyed : key_ok t r ≡ true → Keyed t r
  unfolding key_ok
  keyed e =
      let a = both (name_ok t r.name) (is_key (name_bytes t r.name) && (is_free (name_bytes t r.name) && value_ok t r.value)) e in
      let b = both (is_key (name_bytes t r.name)) (is_free (name_bytes t r.name) && value_ok t r.value) a.1 in
      let c = both (is_free (name_bytes t r.name)) (value_ok t r.value) b.1 in
      record { range = a.0; key = b.0; free = c.0; value = c.1 }

-- ---- rows that pass are shaped
module _ {t : Texts} {s : Rows} where
  pub passed_shaped : Passed t s → Shaped t s
  unfolding name_at
  passed_shaped p =
      record {
        once = slots_once s p.slots;
        free = λ k h. (keyed (all_at (key_ok t) zero_row s.keys p.keys k h)).free;
        apart = λ j k i l e. go j k i l e (ltb j k) refl (ltb k j) refl;
      }
    where
      differ : (j k : ℕ) → j < k → k < length s.keys → same (name_at t s.keys k) (name_at t s.keys j) ≡ false
      differ = apart_differ t s.keys p.apart

      go : (j k : ℕ) → j < length s.keys → k < length s.keys → same (name_at t s.keys j) (name_at t s.keys k) ≡ true → (a : Bool) → ltb j k ≡ a → (b : Bool) → ltb k j ≡ b → j ≡ k
      go j k i l e true q b r = contra _ (same_sym (name_at t s.keys k) (name_at t s.keys j) ∙ e) (differ j k (ltb-true j k q) l)
      go j k i l e false q true r = contra _ e (differ k j (ltb-true k j r) i)
      go j k i l e false q false r = omega (arith, ltb-false j k q, ltb-false k j r)
      -- ---- and shaped rows pass: the id, the classes and each row of a key are left to be looked at alone

-- ---- of a table
module _ (t : Texts) (a : Attrs) (e : table_ok t a ≡ true) where
  pub table_passed : Passed t (rows_in a)
  unfolding table_ok
  table_passed = rows_passed t (rows_in a) (both (counts_ok a) (rows_ok t (rows_in a)) e).1

  pub shaped : Shaped t (rows_in a)
  shaped = passed_shaped table_passed
