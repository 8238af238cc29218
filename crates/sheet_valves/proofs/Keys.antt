-- The three keys found in one walk over the slots.
-- Assumes nothing.
use Rattle.std.specs.Prelude.{None, Option, Some, Err, Ok, Result}
use mathlib.Core.Path.{◌≡◌, refl, sym, ◌∙◌, ap}
use mathlib.Core.Bool.{Bool, true, false, cond}
use mathlib.Core.List.{List, [], ◌∷◌}
use Prim.Native.Nat.{ℕ, ◌+◌, ◌≤◌, ◌<◌}
use native.Mathlib.Omega.{arith}
use borrow.Author.Tests.{lt-ltb, le-ltb, ltb-true, ltb-false, ne_eqb}
use lib.Dec.{eqb, ltb}
use lib.ListN.{length, get_or, take}
use Rattle.base_lists.specs.Lists.{same}
use Rattle.base_lists.proofs.Same.{same_true}
use Rattle.set_table.specs.Types.{Texts, max_keys, max_slots, zero_row, zero_slot, range_bytes, name_bytes, value_bytes}
use Rattle.set_table.specs.Rows.{slot_in, rows_in, meaning_of}
use Rattle.set_table.specs.declared.Row.{Row}
use Rattle.set_table.specs.declared.Slot.{Slot}
use Rattle.set_table.specs.declared.Slot.TheVariants.{Id, Class, Key}
use Rattle.set_table.specs.declared.SlotRecord.{SlotRecord}
use Rattle.set_table.specs.declared.Attrs.{Attrs}
use Rattle.base_refusals.specs.declared.Refusal.TheVariants.{BadSetting}
use Rattle.set_keyed.specs.Keyed.{values_by, slot_found, or_keyed, key_in, key_found}
use Rattle.set_keyed.proofs.Slots.{row_past, row_out, row_in, first_map, Seeks, seeks_start, seeks_all, seeks_go, or_missing}
use Rattle.sheet_valves.specs.Settings.{variant_name, wheel_name, valve_name, read_setting, setting_by, setting_of}
use Rattle.sheet_valves.specs.Inner.{key_no, row_no, keyed_at, IsFound}
use Rattle.sheet_valves.specs.declared.KeyRows.{KeyRows}
use Rattle.sheet_valves.proofs.Settings.{found}
use Rattle.set_table.specs.declared.Value.{Value}
use Rattle.base_refusals.specs.declared.Refusal.{Refusal}
use Rattle.sheet_valves.specs.declared.Setting.{Setting}

-- ---- a name is at most one of the three

-- the number of a name tells each of them
pub record KeyTold (s : List ℕ) (j : ℕ) : Type 0 where
  pub variant : same s variant_name ≡ eqb j 0
  pub wheel : same s wheel_name ≡ eqb j 1
  pub valve : same s valve_name ≡ eqb j 2

-- a name that is one list is no other
other : (a b s : List ℕ) → same a b ≡ false → same s a ≡ true → same s b ≡ false
other a b s n e = rw (same_true s a e) n

pub key_told : (s : List ℕ) → KeyTold s (key_no s)
unfolding key_no same
key_told s = go (same s variant_name) (same s wheel_name) (same s valve_name) refl refl refl
  where
    go : (x y z : Bool) → same s variant_name ≡ x → same s wheel_name ≡ y → same s valve_name ≡ z → KeyTold s (cond x 0 (cond y 1 (cond z 2 3)))
    go true y z e f g = record { variant = e; wheel = other variant_name wheel_name s refl e; valve = other variant_name valve_name s refl e }
    go false true z e f g = record { variant = e; wheel = f; valve = other wheel_name valve_name s refl f }
    go false false true e f g = record { variant = e; wheel = f; valve = g }
    go false false false e f g = record { variant = e; wheel = f; valve = g }

-- ---- what a slot gives, by its row

module _ (t : Texts) (keys : List Row) (n : ℕ) (b : ℕ) (m : List ℕ) where
  zero_row_lem : {r : Row} → zero_row ≡ r → cond (same (name_bytes t r.name) (b ∷ m)) (Some r.value) None ≡ None
  unfolding same name_bytes range_bytes
  zero_row_lem e = rw (← e)

  -- one that has no row gives nothing
  pub no_row : (s : Slot) → length keys ≡ max_keys → max_keys ≤ row_no n s → slot_found t (take n keys) (b ∷ m) s ≡ None
  unfolding slot_found
  no_row Id l h = refl
  no_row Class l h = refl
  no_row (Key k) l h = go (ltb k n) refl h
    where
      go : (x : Bool) → ltb k n ≡ x → max_keys ≤ cond x k max_keys → slot_found t (take n keys) (b ∷ m) (Key k) ≡ None
      go true e h = zero_row_lem (row_out n k keys l h)
      go false e h = zero_row_lem (row_past n k keys (ltb-false k n e))

-- and else its row's value, where that has the name
pub of_row : (t : Texts) (keys : List Row) (n : ℕ) (m : List ℕ) (s : Slot) → row_no n s < max_keys
    → slot_found t (take n keys) m s ≡ cond (same (name_bytes t (get_or keys (row_no n s) zero_row).name) m) (Some (get_or keys (row_no n s) zero_row).value) None
unfolding slot_found
of_row t keys n m Id h = absurd (omega arith)
of_row t keys n m Class h = absurd (omega arith)
of_row t keys n m (Key k) h = go (ltb k n) refl h
  where
    go : (x : Bool) → ltb k n ≡ x → cond x k max_keys < max_keys
        → slot_found t (take n keys) m (Key k) ≡ cond (same (name_bytes t (get_or keys (cond x k max_keys) zero_row).name) m) (Some (get_or keys (cond x k max_keys) zero_row).value) None
    go true e h = rw (row_in n k keys (ltb-true k n e))
    go false e h = absurd (omega arith)

-- ---- the row that was found first

pub earlier_is : (keys : List Row) (v i : ℕ) → i < max_keys → keyed_at keys (cond (ltb v max_keys) v i) ≡ or_keyed (keyed_at keys v) (Some (get_or keys i zero_row).value)
earlier_is keys v i h = go (ltb v max_keys) refl
  where
    go : (x : Bool) → ltb v max_keys ≡ x → keyed_at keys (cond x v i) ≡ or_keyed (cond x (Some (get_or keys v zero_row).value) None) (Some (get_or keys i zero_row).value)
    go true e = rw e
    go false e = rw (lt-ltb i max_keys h)

-- ---- the walk: k slots gave these rows

abbrev giving : Texts → Attrs → List ℕ → SlotRecord → Option Value
giving t a m p = slot_found t (take a.nkey a.keys) m (slot_in p)

pub record KeyWalk (t : Texts) (a : Attrs) (v w x k : ℕ) : Type 0 where
  pub rows : length a.keys ≡ max_keys
  pub variant : Seeks (giving t a variant_name) a.order a.norder k (keyed_at a.keys v)
  pub wheel : Seeks (giving t a wheel_name) a.order a.norder k (keyed_at a.keys w)
  pub valve : Seeks (giving t a valve_name) a.order a.norder k (keyed_at a.keys x)

pub walks_start : (t : Texts) (a : Attrs) → length a.keys ≡ max_keys → length a.order ≡ max_slots → KeyWalk t a max_keys max_keys max_keys 0
walks_start t a r o =
    record {
      rows = r;
      variant = seeks_start (giving t a variant_name) a.order a.norder o;
      wheel = seeks_start (giving t a wheel_name) a.order a.norder o;
      valve = seeks_start (giving t a valve_name) a.order a.norder o;
    }

module _ {t : Texts} {a : Attrs} {v w x k : ℕ} (inv : KeyWalk t a v w x k) where
  pub walks_end : length (take a.norder a.order) ≤ k → IsFound t a (record { variant = v; wheel = w; valve = x })
  unfolding key_found key_in rows_in
  walks_end h =
      record {
        variant = rw first_map (seeks_all inv.variant h);
        wheel = rw first_map (seeks_all inv.wheel h);
        valve = rw first_map (seeks_all inv.valve h);
      }

  module _ (h : k < max_slots) (l : k < a.norder) {i : ℕ} (e : i ≡ row_no a.nkey (get_or a.order k zero_slot).slot) where
    abbrev Goes : List ℕ → ℕ → ℕ → Type 0
    Goes m j u = Seeks (giving t a m) a.order a.norder j (keyed_at a.keys u)

    pass : (m : List ℕ) (u : ℕ) → Goes m k u → giving t a m (get_or a.order k zero_slot) ≡ None → Goes m (k + 1) u
    pass m u s n = seeks_go s zero_slot h l (rw (n, or_missing (keyed_at a.keys u)))

    pub walks_pass : max_keys ≤ i → KeyWalk t a v w x (k + 1)
    walks_pass n =
        record {
          rows = inv.rows;
          variant = pass variant_name v inv.variant (no_row t a.keys a.nkey _ _ (get_or a.order k zero_slot).slot inv.rows (rw e at n));
          wheel = pass wheel_name w inv.wheel (no_row t a.keys a.nkey _ _ (get_or a.order k zero_slot).slot inv.rows (rw e at n));
          valve = pass valve_name x inv.valve (no_row t a.keys a.nkey _ _ (get_or a.order k zero_slot).slot inv.rows (rw e at n));
        }

    module _ (r : i < max_keys) {j : ℕ} (q : j ≡ key_no (name_bytes t (get_or a.keys i zero_row).name)) where
      told : KeyTold (name_bytes t (get_or a.keys i zero_row).name) j
      told = rw q (key_told (name_bytes t (get_or a.keys i zero_row).name))

      gives : (m : List ℕ) → giving t a m (get_or a.order k zero_slot) ≡ cond (same (name_bytes t (get_or a.keys i zero_row).name) m) (Some (get_or a.keys i zero_row).value) None
      gives m = rw e (of_row t a.keys a.nkey m (get_or a.order k zero_slot).slot (rw e at r))

      no : (m : List ℕ) (u : ℕ) → Goes m k u → same (name_bytes t (get_or a.keys i zero_row).name) m ≡ false → Goes m (k + 1) u
      no m u s n = pass m u s (gives m ∙ rw n)

      yes : (m : List ℕ) (u : ℕ) {b : ℕ} → Goes m k u → same (name_bytes t (get_or a.keys i zero_row).name) m ≡ true → b ≡ cond (ltb u max_keys) u i → Goes m (k + 1) b
      yes m u s n z = seeks_go s zero_slot h l (rw (z, gives m, n) (earlier_is a.keys u i r))

      pub walks_variant : j ≡ 0 → {b : ℕ} → b ≡ cond (ltb v max_keys) v i → KeyWalk t a b w x (k + 1)
      walks_variant f z = record { rows = inv.rows; variant = yes variant_name v inv.variant (told.variant ∙ rw f) z; wheel = no wheel_name w inv.wheel (told.wheel ∙ rw f); valve = no valve_name x inv.valve (told.valve ∙ rw f) }

      pub walks_wheel : j ≡ 1 → {b : ℕ} → b ≡ cond (ltb w max_keys) w i → KeyWalk t a v b x (k + 1)
      walks_wheel f z = record { rows = inv.rows; variant = no variant_name v inv.variant (told.variant ∙ rw f); wheel = yes wheel_name w inv.wheel (told.wheel ∙ rw f) z; valve = no valve_name x inv.valve (told.valve ∙ rw f) }

      pub walks_valve : j ≡ 2 → {b : ℕ} → b ≡ cond (ltb x max_keys) x i → KeyWalk t a v w b (k + 1)
      walks_valve f z = record { rows = inv.rows; variant = no variant_name v inv.variant (told.variant ∙ rw f); wheel = no wheel_name w inv.wheel (told.wheel ∙ rw f); valve = yes valve_name x inv.valve (told.valve ∙ rw f) z }

      pub walks_other : (j ≡ 0 → ⊥) → (j ≡ 1 → ⊥) → (j ≡ 2 → ⊥) → KeyWalk t a v w x (k + 1)
      walks_other f g o =
          record {
            rows = inv.rows;
            variant = no variant_name v inv.variant (told.variant ∙ ne_eqb j 0 f);
            wheel = no wheel_name w inv.wheel (told.wheel ∙ ne_eqb j 1 g);
            valve = no valve_name x inv.valve (told.valve ∙ ne_eqb j 2 o);
          }

-- ---- what the rows say

-- where the first isn't there, and where one of the others isn't
module _ {t : Texts} {a : Attrs} {r : KeyRows} (f : IsFound t a r) where
  said : setting_by (values_by t (keyed_at a.keys r.variant)) (values_by t (keyed_at a.keys r.wheel)) (values_by t (keyed_at a.keys r.valve)) ≡ setting_of (meaning_of t a)
  said = rw (f.variant, f.wheel, f.valve) (found t a)

  pub rows_without : {h : Result (Option Setting) Refusal} → max_keys ≤ r.variant → h ≡ cond (ltb r.wheel max_keys) (Err BadSetting) (cond (ltb r.valve max_keys) (Err BadSetting) (Ok None))
      → h ≡ setting_of (meaning_of t a)
  unfolding setting_by
  rows_without n q = q ∙ go (ltb r.wheel max_keys) (ltb r.valve max_keys) ∙ rw (le-ltb r.variant max_keys n) at said
    where
      go : (x y : Bool) → cond {A = Result (Option Setting) Refusal} x (Err BadSetting) (cond y (Err BadSetting) (Ok None))
          ≡ setting_by [] (values_by t (cond x (Some (get_or a.keys r.wheel zero_row).value) None)) (values_by t (cond y (Some (get_or a.keys r.valve zero_row).value) None))
      go true y = refl
      go false true = refl
      go false false = refl

  module _ (v : r.variant < max_keys) where
    pub rows_no_wheel : max_keys ≤ r.wheel → Err BadSetting ≡ setting_of (meaning_of t a)
    unfolding setting_by
    rows_no_wheel n = rw (lt-ltb r.variant max_keys v, le-ltb r.wheel max_keys n) at said

    pub rows_no_valve : r.wheel < max_keys → max_keys ≤ r.valve → Err BadSetting ≡ setting_of (meaning_of t a)
    unfolding setting_by
    rows_no_valve w n = rw (lt-ltb r.variant max_keys v, lt-ltb r.wheel max_keys w, le-ltb r.valve max_keys n) at said

    pub rows_all : {h : Result (Option Setting) Refusal} → r.wheel < max_keys → r.valve < max_keys
        → h ≡ read_setting (value_bytes t (get_or a.keys r.variant zero_row).value) (value_bytes t (get_or a.keys r.wheel zero_row).value) (value_bytes t (get_or a.keys r.valve zero_row).value)
        → h ≡ setting_of (meaning_of t a)
    unfolding setting_by
    rows_all w x q = q ∙ rw (lt-ltb r.variant max_keys v, lt-ltb r.wheel max_keys w, lt-ltb r.valve max_keys x) at said
