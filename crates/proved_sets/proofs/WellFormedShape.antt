-- What `well_formed` decides: rows that pass its tests are shaped as those that are put together, and shaped rows pass the tests that aren't of one row alone.
-- Assumes nothing.
use Rattle.std.specs.Prelude.{Err, Ok, Result}
use Prim.Native.Nat.{ℕ, zero, suc, ◌<◌}
use mathlib.Core.Path.{◌≡◌, refl, sym, ◌∙◌}
use mathlib.Core.Bool.{Bool, true, false, cond, ◌&&◌}
use mathlib.Core.List.{List, [], ◌∷◌}
use native.Mathlib.Omega.{arith}
use lib.Dec.{leb}
use lib.ListN.{length}
use borrow.Author.Tests.{leb-true, eq-eqb}
use Rattle.base_lists.proofs.Scan.{both}
use Rattle.base_lists.proofs.More.{contra}
use Rattle.text_checks.specs.Check.{is_text, check_of, both_of}
use Rattle.text_checks.specs.Outcomes.{or_else}
use Rattle.text_checks.proofs.CheckNumbers.{both_is}
use Rattle.text_checks.proofs.Texts.{passed, text-passes}
use Rattle.proved_sets.specs.Formed.{Formed, Decides}
use Rattle.base_lists.specs.Lists.{same, all}
use Rattle.base_lists.proofs.Each.{all_at, all_each}
use Rattle.set_table.specs.Types.{Texts, max_classes, max_keys, max_slots, zero_value, zero_row}
use Rattle.set_table.specs.Rows.{Rows, rows_in}
use Rattle.set_table.specs.Shape.{times, is_present, name_at, Shaped}
use Rattle.set_table.specs.declared.Attrs.{Attrs}
use Rattle.set_table.specs.declared.Row.{Row}
use Rattle.set_table.specs.declared.Slot.{Slot}
use Rattle.set_table.specs.declared.Slot.TheVariants.{Id, Class, Key}
use Rattle.set_table.proofs.Slots.{times_le, times_head}
use Rattle.set_wellformed.specs.WellFormed.{counts_ok, keys_apart, is_once, keys_once, slots_ok, rows_ok, table_ok, well_formed}
use Rattle.set_wellformed.proofs.Decide.{differ_apart, counts}
use Rattle.set_wellformed.proofs.Shape.{Keyed, Passed, passed_shaped, rows_passed}
use Rattle.set_values.specs.Values.{class_ok, key_ok}
use Rattle.base_refusals.specs.declared.Refusal.{Refusal}

module _ (s : Rows) where
  once_keys : ((x : Slot) → is_once s x ≡ true) → (n : ℕ) → keys_once s n ≡ true
  unfolding keys_once
  once_keys h zero = refl
  once_keys h (suc n) = rw (h (Key n)) (once_keys h n)

  there : (f : Slot → Bool) (o : List Slot) → ((y : Slot) → 0 < times y o → f y ≡ true) → all f o ≡ true
  unfolding all
  there f [] h = refl
  there f (y ∷ o) h = rw (h y (omega (arith, times_head y o))) (there f o (λ z i. h z (omega (arith, times_le z y o))))

  pub once_slots : ((x : Slot) → times x s.order ≡ cond (is_present s x) 1 0) → slots_ok s ≡ true
  unfolding slots_ok
  once_slots h = rw (there (is_present s) s.order (λ y i. present y (is_present s y) (h y) i), once Id, once Class) (once_keys once (length s.keys))
    where
      present : (y : Slot) (b : Bool) → times y s.order ≡ cond b 1 0 → 0 < times y s.order → b ≡ true
      present y true e i = refl
      present y false e i = absurd (omega arith)

      once : (x : Slot) → is_once s x ≡ true
      once x = eq-eqb (times x s.order) (cond (is_present s x) 1 0) (h x)

pub passed_rows : {t : Texts} {s : Rows} → Passed t s → rows_ok t s ≡ true
unfolding rows_ok
passed_rows p = rw (p.ident, p.classes, p.keys, p.apart) p.slots

module _ {t : Texts} {r : Row} where
  pub keyed_ok : Keyed t r → key_ok t r ≡ true
  unfolding key_ok
  keyed_ok k = rw (k.range, k.key, k.free) k.value

module _ {t : Texts} {s : Rows} where
  pub rows_shaped : rows_ok t s ≡ true → Shaped t s
  rows_shaped e = passed_shaped (rows_passed t s e)

  pub shaped_apart : Shaped t s → keys_apart t s.keys ≡ true
  shaped_apart h = differ_apart t s.keys (λ j k i l. go j k i l (same (name_at t s.keys k) (name_at t s.keys j)) refl)
    where
      go : (j k : ℕ) → j < k → k < length s.keys → (b : Bool) → same (name_at t s.keys k) (name_at t s.keys j) ≡ b → b ≡ false
      go j k i l true q = absurd (omega (arith, h.apart k j l (omega arith) q))
      go j k i l false q = refl

  pub shaped_slots : Shaped t s → slots_ok s ≡ true
  shaped_slots h = once_slots s h.once

-- ---- the texts, and the whole table over them
module _ (t : Texts) (a : Attrs) where
  pub formed_parts : well_formed t a ≡ true → (is_text t.first ≡ true) × (is_text t.second ≡ true) × (table_ok t a ≡ true)
  unfolding well_formed
  formed_parts e =
      let x = both (is_text t.first) (is_text t.second && table_ok t a) e in
      let y = both (is_text t.second) (table_ok t a) x.1 in
      (x.0, y.0, y.1)

  pub formed_whole : is_text t.first ≡ true → is_text t.second ≡ true → well_formed t a ≡ table_ok t a
  unfolding well_formed
  formed_whole x y = rw (x, y)

pub decides : Decides
unfolding table_ok counts_ok
decides t a = (λ e. formed (formed_parts t a e), λ h. whole h)
  where
    formed : (is_text t.first ≡ true) × (is_text t.second ≡ true) × ((counts_ok a && rows_ok t (rows_in a)) ≡ true) → Formed t a
    formed e =
        let c = both (counts_ok a) (rows_ok t (rows_in a)) e.2 in
        let x = both (leb a.nclass max_classes) (leb a.nkey max_keys && leb a.norder max_slots) c.0 in
        let y = both (leb a.nkey max_keys) (leb a.norder max_slots) x.1 in
        let p = rows_passed t (rows_in a) c.1 in
        record {
          first = text-passes t.first e.0;
          second = text-passes t.second e.1;
          classes = leb-true a.nclass max_classes x.0;
          keys = leb-true a.nkey max_keys y.0;
          slots = leb-true a.norder max_slots y.1;
          ident = p.ident;
          class = all_at (class_ok t) zero_value (rows_in a).classes p.classes;
          key = all_at (key_ok t) zero_row (rows_in a).keys p.keys;
          shape = passed_shaped p;
        }

    whole : Formed t a → well_formed t a ≡ true
    whole h =
        let p : Passed t (rows_in a) = record {
          ident = h.ident;
          classes = all_each (class_ok t) zero_value (rows_in a).classes h.class;
          keys = all_each (key_ok t) zero_row (rows_in a).keys h.key;
          apart = shaped_apart h.shape;
          slots = shaped_slots h.shape;
        } in
        formed_whole t a (sym (passed t.first refl h.first)) (sym (passed t.second refl h.second))
        ∙ (rw (counts a h.classes h.keys h.slots) (passed_rows p))

-- the check of both passes where each is a text
module _ (t : Texts) where
  pub both_pass : is_text t.first ≡ true → is_text t.second ≡ true → both_of t.first t.second ≡ Ok tt
  both_pass x y = sym (both_is t.first t.second) ∙ (rw (text-passes t.first x, text-passes t.second y))

  pub both_texts : both_of t.first t.second ≡ Ok tt → (is_text t.first ≡ true) × (is_text t.second ≡ true)
  both_texts e = go (check_of t.first) refl (both_is t.first t.second ∙ e)
    where
      go : (c : Result (Unit {0}) Refusal) → check_of t.first ≡ c → or_else c (check_of t.second) ≡ Ok tt → (is_text t.first ≡ true) × (is_text t.second ≡ true)
      go (Ok _) q e = (sym (passed t.first refl q), sym (passed t.second refl e))
      go (Err r) q e = contra true refl (cc)
