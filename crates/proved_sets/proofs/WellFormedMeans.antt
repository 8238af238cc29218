-- What a well-formed table means is a well-formed meaning, and when there is nothing in it.
-- Assumes nothing.
use Prim.Native.Nat.{ℕ, suc, ◌<◌, ◌≤◌}
use mathlib.Core.Path.{◌≡◌, refl, sym, ◌∙◌, ap}
use mathlib.Core.Bool.{Bool, true, false, cond, not, ◌&&◌}
use mathlib.Core.List.{List, [], ◌∷◌, map}
use native.Mathlib.Omega.{arith}
use lib.Dec.{ltb}
use lib.ListN.{length}
use borrow.Author.Tests.{ltb-true, lt-ltb, eqb-false}
use Rattle.base_lists.specs.Lists.{all, headed, same, is_some}
use Rattle.base_lists.proofs.Scan.{both}
use Rattle.base_lists.proofs.More.{contra, same_sym, all_weaker}
use Rattle.base_bytes.specs.Bytes.{within, is_letter, is_digit, is_alnum, is_key_start, is_name_part}
use Rattle.text_names.specs.Names.{is_key}
use Rattle.block_grammar.specs.Close.{no_lf}
use Rattle.block_grammar.specs.Meaning.{id_name, class_name, is_class, classes_once}
use Rattle.proved_grammar.specs.Meaning.{absent, distinct}
use Rattle.set_canon.specs.Canon.{is_class_value}
use Rattle.proved_sets.specs.Formed.{entry_ok, wf, MeansFormed, MeansNothing, CountsZero, wf_once}
use Rattle.proved_sets.proofs.CanonParts.{entry_ok_lem, classes_ok, value_ok_lem, joined}
use Rattle.proved_sets.proofs.Shaping.{free_parts}
use Rattle.set_table.specs.Types.{Texts, value_bytes, zero_row}
use Rattle.set_table.specs.Rows.{Ident, Rows, no_rows, is_there, id_values, slot_entry, meant, rows_in, meaning_of, listed_of}
use Rattle.set_table.specs.Shape.{times, is_slot, is_present, name_at, Shaped}
use Rattle.set_table.specs.declared.Attrs.{Attrs}
use Rattle.set_table.specs.declared.Row.{Row}
use Rattle.set_table.specs.declared.Slot.{Slot}
use Rattle.set_table.specs.declared.Slot.TheVariants.{Id, Class, Key}
use Rattle.set_table.specs.declared.Value.{Value}
use Rattle.set_table.proofs.Slots.{times_le, times_head}
use Rattle.set_values.specs.Values.{text_ok, value_ok, ident_ok, class_ok, key_ok}
use Rattle.base_lists.proofs.Each.{all_map, all_at}
use Rattle.set_wellformed.proofs.Shape.{slots_named, Passed, keyed, passed_shaped, table_passed, shaped}
use Rattle.block_grammar.proofs.Once.{once_empty}
use Rattle.proved_grammar.proofs.Once.{apart_once}
use Rattle.set_wellformed.specs.WellFormed.{table_ok}
use Rattle.proved_sets.proofs.CanonOnce.{once_wf}

flat : (t : Texts) (v : Value) → value_ok t v ≡ true → no_lf (value_bytes t v) ≡ true
unfolding value_ok
flat t v e = (both (text_ok t v.text) (no_lf (value_bytes t v)) e).1

pub class_value : (t : Texts) (v : Value) → class_ok t v ≡ true → (value_ok t v ≡ true) × (is_class_value (value_bytes t v) ≡ true)
unfolding class_ok
class_value t v e = both (value_ok t v) (is_class_value (value_bytes t v)) e

id_key : is_key id_name ≡ true
unfolding is_key headed is_key_start is_name_part is_alnum is_letter is_digit within all
id_key = refl

class_key : is_key class_name ≡ true
unfolding is_key headed is_key_start is_name_part is_alnum is_letter is_digit within all
class_key = refl

id_no_class : is_class id_name ≡ false
unfolding is_class same
id_no_class = refl

class_class : is_class class_name ≡ true
unfolding is_class same
class_class = refl

module _ {t : Texts} {s : Rows} (p : Passed t s) where
  id_entry : (i : Ident) → is_there i ≡ true → ident_ok t i ≡ true → entry_ok (record { name = id_name; values = id_values t i }) ≡ true
  unfolding all
  id_entry Ident.missing h e = contra false h refl
  id_entry (Ident.given v) h e = entry_ok_lem _ (record { key = id_key; flat = rw (flat t v e); shape = value_ok_lem id_name (value_bytes t v) id_no_class })

  class_entry : (cs : List Value) → is_some cs ≡ true → all (class_ok t) cs ≡ true → entry_ok (record { name = class_name; values = map (value_bytes t) cs }) ≡ true
  class_entry cs h e =
      entry_ok_lem _ (record {
        key = class_key;
        flat = rw all_map (all_weaker (class_ok t) (λ v. no_lf (value_bytes t v)) (λ v q. flat t v (class_value t v q).0) cs e);
        shape = classes_ok class_name (map (value_bytes t) cs) class_class (some cs h) (rw all_map (all_weaker (class_ok t) (λ v. is_class_value (value_bytes t v)) (λ v q. (class_value t v q).1) cs e));
      })
    where
      some : (cs : List Value) → is_some cs ≡ true → is_some (map (value_bytes t) cs) ≡ true
      some [] h = h
      some (c ∷ cs) h = refl

  key_entry : (k : ℕ) → k < length s.keys → entry_ok (slot_entry t s (Key k)) ≡ true
  unfolding slot_entry all is_class
  key_entry k h =
      let r = keyed (all_at (key_ok t) zero_row s.keys p.keys k h) in
      entry_ok_lem _ (record { key = r.key; flat = rw (flat t _ r.value); shape = value_ok_lem _ _ (free_parts _ r.free).1 })

  slot_entry_lem : (x : Slot) → is_present s x ≡ true → entry_ok (slot_entry t s x) ≡ true
  unfolding slot_entry
  slot_entry_lem Id h = id_entry s.ident h p.ident
  slot_entry_lem Class h = class_entry s.classes h p.classes
  slot_entry_lem (Key k) h = key_entry k (ltb-true k (length s.keys) h)

  entries : (o : List Slot) → all (is_present s) o ≡ true → all entry_ok (map (slot_entry t s) o) ≡ true
  unfolding all
  entries [] h = refl
  entries (x ∷ o) h = let z = both (is_present s x) (all (is_present s) o) h in rw (slot_entry_lem x z.0) (entries o z.1)

module _ {t : Texts} {s : Rows} (h : Shaped t s) where
  free_key : (k : ℕ) → is_present s (Key k) ≡ true → (same (name_at t s.keys k) id_name ≡ false) × (same (name_at t s.keys k) class_name ≡ false)
  free_key k p = free_parts (name_at t s.keys k) (h.free k (ltb-true k (length s.keys) p))

  names_apart : (x y : Slot) → is_present s x ≡ true → is_present s y ≡ true → is_slot x y ≡ false → same (slot_entry t s y).name (slot_entry t s x).name ≡ false
  unfolding slot_entry same name_at
  names_apart Id Id p q e = contra true refl e
  names_apart Id Class p q e = refl
  names_apart Id (Key k) p q e = (free_key k q).0
  names_apart Class Id p q e = refl
  names_apart Class Class p q e = contra true refl e
  names_apart Class (Key k) p q e = (free_key k q).1
  names_apart (Key k) Id p q e = same_sym id_name (name_at t s.keys k) ∙ (free_key k p).0
  names_apart (Key k) Class p q e = same_sym class_name (name_at t s.keys k) ∙ (free_key k p).1
  names_apart (Key j) (Key k) p q e = go (same (name_at t s.keys k) (name_at t s.keys j)) refl
    where
      go : (b : Bool) → same (name_at t s.keys k) (name_at t s.keys j) ≡ b → b ≡ false
      go true r = absurd (eqb-false (suc (suc j)) (suc (suc k)) e (ap (λ i. suc (suc i)) (sym (h.apart k j (ltb-true k (length s.keys) q) (ltb-true j (length s.keys) p) r))))
      go false r = refl

  not_there : (x : Slot) → is_present s x ≡ true → (o : List Slot) → all (is_present s) o ≡ true → times x o ≡ 0 → absent (slot_entry t s x).name (map (slot_entry t s) o) ≡ true
  unfolding all times absent
  not_there x p [] a e = refl
  not_there x p (y ∷ o) a e = go (is_slot x y) refl e (both (is_present s y) (all (is_present s) o) a) (not_there x p o)
    where
      go : (b : Bool) → is_slot x y ≡ b → cond b (suc (times x o)) (times x o) ≡ 0 → (is_present s y ≡ true) × (all (is_present s) o ≡ true)
          → (all (is_present s) o ≡ true → times x o ≡ 0 → absent (slot_entry t s x).name (map (slot_entry t s) o) ≡ true)
          → (not (same (slot_entry t s y).name (slot_entry t s x).name) && absent (slot_entry t s x).name (map (slot_entry t s) o)) ≡ true
      go true r e z ih = absurd (omega arith)
      go false r e z ih = rw (names_apart x y p z.0 r) (ih z.1 e)

  slots_distinct : (o : List Slot) → all (is_present s) o ≡ true → ((x : Slot) → times x o ≤ 1) → distinct (map (slot_entry t s) o) ≡ true
  unfolding all distinct
  slots_distinct [] a e = refl
  slots_distinct (x ∷ o) a e =
      let z = both (is_present s x) (all (is_present s) o) a in
      rw (not_there x z.0 o z.1 (omega (arith, e x, times_head x o))) (slots_distinct o z.1 (λ y. omega (arith, e y, times_le y x o)))

  once_most : (x : Slot) → times x s.order ≤ 1
  once_most x = go (is_present s x) (h.once x)
    where
      go : (b : Bool) → times x s.order ≡ cond b 1 0 → times x s.order ≤ 1
      go true e = omega arith
      go false e = omega arith

  empty_rows : s.order ≡ [] → s ≡ no_rows
  unfolding times
  empty_rows e = rw (no_id s.ident (rw e at (h.once Id)), no_class s.classes (rw e at (h.once Class)), no_key s.keys (rw e at (h.once (Key 0))), e)
    where
      no_id : (i : Ident) → ◌≡◌ {A = ℕ} 0 (cond (is_there i) 1 0) → i ≡ Ident.missing
      no_id Ident.missing q = refl
      no_id (Ident.given v) q = absurd (omega arith)

      no_class : (cs : List Value) → ◌≡◌ {A = ℕ} 0 (cond (is_some cs) 1 0) → cs ≡ []
      no_class [] q = refl
      no_class (c ∷ cs) q = absurd (omega arith)

      no_key : (ks : List Row) → ◌≡◌ {A = ℕ} 0 (cond (ltb 0 (length ks)) 1 0) → ks ≡ []
      no_key [] q = refl
      no_key (k ∷ ks) q = absurd (omega (arith, rw (lt-ltb 0 (suc (length ks)) (omega arith)) at q))

pub passed-wf : {t : Texts} {s : Rows} → Passed t s → wf (meant t s) ≡ true
unfolding meant
passed-wf {t} {s} p =
    let a = slots_named s p.slots in
    joined (map (slot_entry t s) s.order) (entries p s.order a) (slots_distinct (passed_shaped p) s.order a (once_most (passed_shaped p)))

module _ (t : Texts) (a : Attrs) (e : table_ok t a ≡ true) where
  pub lists_wf : wf (listed_of t a) ≡ true
  unfolding listed_of
  lists_wf = passed-wf (table_passed t a e)

  pub means_wf : wf (meaning_of t a) ≡ true
  unfolding meaning_of
  means_wf = once_wf (listed_of t a) lists_wf

pub means_formed : MeansFormed
unfolding meaning_of wf_once
means_formed t a e = (lists_wf t a e, rw (means_wf t a e) (apart_once (listed_of t a)))

-- the meaning is empty just where there are no rows
pub means_none : MeansNothing
unfolding meaning_of listed_of meant classes_once
means_none t a e = (λ q. empty_rows (shaped t a e) (none (rows_in a).order (once_empty (listed_of t a) q)), λ q. rw q)
  where
    none : (o : List Slot) → map (slot_entry t (rows_in a)) o ≡ [] → o ≡ []
    none [] q = refl
    none (x ∷ o) q = contra true refl (cc)

pub counts_zero : CountsZero
unfolding rows_in
counts_zero t a e c k o = record { id = no_id a.given (ap (λ s. s.ident) (empty_rows (shaped t a e) (rw o))); classes = c; keys = k; slots = o }
  where
    no_id : (b : Bool) → cond b (Ident.given a.id) Ident.missing ≡ Ident.missing → b ≡ false
    no_id true q = contra true refl (cc)
    no_id false q = refl
