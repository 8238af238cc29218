-- A key by its name, in the meaning.
-- Assumes nothing.
use mathlib.Core.Path.{◌≡◌, refl, sym, ◌∙◌}
use mathlib.Core.Bool.{Bool, true, false, cond, not}
use mathlib.Core.List.{List, [], ◌∷◌, map}
use Prim.Native.Nat.{ℕ, suc, ◌<◌, ◌≤◌}
use native.Mathlib.Omega.{arith}
use borrow.Author.Tests.{eq-eqb, ne_eqb, ltb-true, ltb-false, lt-ltb, not-true}
use lib.Dec.{eqb, ltb}
use lib.ListN.{length, get_or}
use Rattle.base_lists.specs.Lists.{same, all}
use Rattle.base_lists.proofs.Scan.{both}
use Rattle.base_lists.proofs.Same.{same_true, same_of}
use Rattle.base_lists.proofs.More.{contra, same_sym}
use Rattle.block_grammar.specs.Meaning.{id_name, class_name, is_class, lookup}
use Rattle.block_grammar.proofs.Once.{once_lookup}
use Rattle.set_table.specs.Types.{Texts, name_bytes, value_bytes, zero_row}
use Rattle.set_table.specs.Rows.{Rows, rows_in, slot_entry, meant, listed_of, meaning_of}
use Rattle.set_table.specs.Shape.{is_slot, times, is_present, name_at, is_free, Shaped}
use Rattle.set_table.specs.declared.Slot.{Slot}
use Rattle.set_table.specs.declared.Slot.TheVariants.{Id, Class, Key}
use Rattle.set_table.specs.declared.Attrs.{Attrs}
use Rattle.set_table.proofs.Slots.{slot_same, times_le, times_head}
use Rattle.set_loose.specs.Loose.{has_name, row_named}
use Rattle.set_loose.proofs.Named.{row_has, row_before}

-- a name that a key may have is neither that of the id nor that of the classes
free_parts : (n : List ℕ) → is_free n ≡ true → (same n id_name ≡ false) × (same n class_name ≡ false)
unfolding is_free
free_parts n e = let z = both (not (same n id_name)) (not (same n class_name)) e in (not-true (same n id_name) z.0, not-true (same n class_name) z.1)

-- every slot of a shaped order is there
all_there : (f : Slot → Bool) (o : List Slot) → ((y : Slot) → 0 < times y o → f y ≡ true) → all f o ≡ true
unfolding all
all_there f [] h = refl
all_there f (y ∷ o) h = rw (h y (omega (arith, times_head y o))) (all_there f o (λ z i. h z (omega (arith, times_le z y o))))

pub shaped_there : {t : Texts} {s : Rows} → Shaped t s → all (is_present s) s.order ≡ true
shaped_there {t} {s} h = all_there (is_present s) s.order (λ y i. go y (is_present s y) (h.once y) i)
  where
    go : (y : Slot) (b : Bool) → times y s.order ≡ cond b 1 0 → 0 < times y s.order → b ≡ true
    go y true e i = refl
    go y false e i = absurd (omega arith)

module _ {t : Texts} {s : Rows} (h : Shaped t s) (w : List ℕ) (free : is_free w ≡ true) where
  -- the slot of the name is that of its row, of all slots that are there
  pub slot_named_lem : (y : Slot) → is_present s y ≡ true → same (slot_entry t s y).name w ≡ is_slot (Key (row_named t w s.keys)) y
  unfolding slot_entry name_at
  slot_named_lem Id p = same_sym id_name w ∙ (free_parts w free).0 ∙ sym (ne_eqb (suc (suc (row_named t w s.keys))) 0 (λ e. omega arith))
  slot_named_lem Class p = same_sym class_name w ∙ (free_parts w free).1 ∙ sym (ne_eqb (suc (suc (row_named t w s.keys))) 1 (λ e. omega arith))
  slot_named_lem (Key j) p = go (same (name_at t s.keys j) w) refl (ltb-true j (length s.keys) p)
    where
      go : (b : Bool) → same (name_at t s.keys j) w ≡ b → j < length s.keys → same (name_bytes t (get_or s.keys j zero_row).name) w ≡ eqb (suc (suc (row_named t w s.keys))) (suc (suc j))
      go true e l = e ∙ sym (eq-eqb (suc (suc (row_named t w s.keys))) (suc (suc j)) (at_most_lem (ltb j (row_named t w s.keys)) refl))
        where
          at_most_lem : (b : Bool) → ltb j (row_named t w s.keys) ≡ b → suc (suc (row_named t w s.keys)) ≡ suc (suc j)
          at_most_lem true q = contra _ e (row_before t w s.keys j (ltb-true j (row_named t w s.keys) q))
          at_most_lem false q =
              let n : row_named t w s.keys < length s.keys = omega (arith, ltb-false j (row_named t w s.keys) q) in
              let a = same_true (name_at t s.keys (row_named t w s.keys)) w (row_has t w s.keys n) in
              let b = same_true (name_at t s.keys j) w e in
              let z : row_named t w s.keys ≡ j = h.apart (row_named t w s.keys) j n l (same_of (a ∙ sym b)) in
              omega arith
      go false e l = e ∙ sym (ne_eqb (suc (suc (row_named t w s.keys))) (suc (suc j)) other)
        where
          other : suc (suc (row_named t w s.keys)) ≡ suc (suc j) → ⊥
          other q =
              let n : row_named t w s.keys ≡ j = omega arith in
              let z : has_name t w (get_or s.keys j zero_row) ≡ true = rw n at (row_has t w s.keys (omega arith)) in
              contra _ z e

  -- ---- the values under the name: its row's value, or none where there is no such row

  found : (o : List Slot) → all (is_present s) o ≡ true
      → lookup w (map (slot_entry t s) o) ≡ cond (ltb 0 (times (Key (row_named t w s.keys)) o)) (slot_entry t s (Key (row_named t w s.keys))).values []
  unfolding all lookup times
  found [] a = refl
  found (y ∷ o) a =
      let g = both (is_present s y) (all (is_present s) o) a in
      rw (slot_named_lem y g.0) (go (is_slot (Key (row_named t w s.keys)) y) refl (found o g.1))
    where
      go : (b : Bool) → is_slot (Key (row_named t w s.keys)) y ≡ b
          → lookup w (map (slot_entry t s) o) ≡ cond (ltb 0 (times (Key (row_named t w s.keys)) o)) (slot_entry t s (Key (row_named t w s.keys))).values []
          → cond b (slot_entry t s y).values (lookup w (map (slot_entry t s) o))
          ≡ cond (ltb 0 (cond b (suc (times (Key (row_named t w s.keys)) o)) (times (Key (row_named t w s.keys)) o))) (slot_entry t s (Key (row_named t w s.keys))).values []
      go true e ih = rw (sym (slot_same (Key (row_named t w s.keys)) y e), lt-ltb 0 (suc (times (Key (row_named t w s.keys)) o)) (omega arith))
      go false e ih = ih

  pub named_means : lookup w (meant t s) ≡ cond (ltb (row_named t w s.keys) (length s.keys)) (value_bytes t (get_or s.keys (row_named t w s.keys) zero_row).value ∷ []) []
  unfolding meant slot_entry
  named_means = found s.order (shaped_there h) ∙ rw (h.once (Key (row_named t w s.keys))) (go (ltb (row_named t w s.keys) (length s.keys)))
    where
      go : (b : Bool) → cond (ltb 0 (cond b 1 0)) (value_bytes t (get_or s.keys (row_named t w s.keys) zero_row).value ∷ []) []
          ≡ cond b (value_bytes t (get_or s.keys (row_named t w s.keys) zero_row).value ∷ []) []
      go true = refl
      go false = refl

-- of a table: classes that don't count are passed over
pub table_named : (t : Texts) (a : Attrs) → Shaped t (rows_in a) → (w : List ℕ) → is_free w ≡ true
    → lookup w (meaning_of t a) ≡ cond (ltb (row_named t w (rows_in a).keys) (length (rows_in a).keys)) (value_bytes t (get_or (rows_in a).keys (row_named t w (rows_in a).keys) zero_row).value ∷ []) []
unfolding meaning_of listed_of is_class
table_named t a h w f = once_lookup w (meant t (rows_in a)) ∙ (rw (free_parts w f).1 (named_means h w f))
