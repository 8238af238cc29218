-- What is found is what the meaning has under the name.
-- Assumes nothing.
use Rattle.std.specs.Prelude.{None, Option, Some}
use mathlib.Core.Path.{◌≡◌, refl, sym, ◌∙◌, ap}
use mathlib.Core.Bool.{Bool, true, false, cond, not}
use mathlib.Core.List.{List, [], ◌∷◌, map}
use Prim.Native.Nat.{ℕ}
use borrow.Author.Tests.{not-true}
use lib.ListN.{get_or}
use Rattle.base_lists.specs.Lists.{same}
use Rattle.base_lists.proofs.Scan.{both}
use Rattle.base_lists.proofs.More.{same_sym}
use Rattle.block_grammar.specs.Meaning.{id_name, class_name, is_class, lookup}
use Rattle.block_grammar.proofs.Once.{once_lookup}
use Rattle.set_table.specs.Types.{Texts, zero_row, name_bytes, value_bytes}
use Rattle.set_table.specs.Rows.{Rows, rows_in, slot_entry, meant, listed_of, meaning_of}
use Rattle.set_table.specs.Shape.{is_free}
use Rattle.set_table.specs.declared.Row.{Row}
use Rattle.set_table.specs.declared.Slot.{Slot}
use Rattle.set_table.specs.declared.Slot.TheVariants.{Id, Class, Key}
use Rattle.set_table.specs.declared.Attrs.{Attrs}
use Rattle.set_keyed.specs.Keyed.{values_by, keyed_paper, slot_found, or_keyed, first_by, key_in, key_found}
use Rattle.set_table.specs.declared.Value.{Value}

free_both : (n : List ℕ) → is_free n ≡ true → (same id_name n ≡ false) × (same class_name n ≡ false)
unfolding is_free
free_both n e =
    let z = both (not (same n id_name)) (not (same n class_name)) e in
    (same_sym id_name n ∙ not-true (same n id_name) z.0, same_sym class_name n ∙ not-true (same n class_name) z.1)

in_order : (t : Texts) (s : Rows) (n : List ℕ) → is_free n ≡ true → (o : List Slot) → values_by t (first_by (slot_found t s.keys n) o) ≡ lookup n (map (slot_entry t s) o)
unfolding first_by slot_found lookup slot_entry
in_order t s n f [] = refl
in_order t s n f (Id ∷ o) = rw (free_both n f).0 (in_order t s n f o)
in_order t s n f (Class ∷ o) = rw (free_both n f).1 (in_order t s n f o)
in_order t s n f (Key k ∷ o) = go (same (name_bytes t (get_or s.keys k zero_row).name) n) (in_order t s n f o)
  where
    go : (b : Bool) → values_by t (first_by (slot_found t s.keys n) o) ≡ lookup n (map (slot_entry t s) o)
        → values_by t (or_keyed (cond b (Some (get_or s.keys k zero_row).value) None) (first_by (slot_found t s.keys n) o))
        ≡ cond b (value_bytes t (get_or s.keys k zero_row).value ∷ []) (lookup n (map (slot_entry t s) o))
    go true ih = refl
    go false ih = ih

-- of any table and each name that a key may have; `once_lookup` passes over the classes that don't count
pub key_means : (t : Texts) (a : Attrs) (n : List ℕ) → is_free n ≡ true → values_by t (key_found t a n) ≡ lookup n (meaning_of t a)
unfolding key_found key_in meaning_of listed_of meant is_class
key_means t a n f = in_order t (rows_in a) n f (rows_in a).order ∙ sym (once_lookup n (map (slot_entry t (rows_in a)) (rows_in a).order) ∙ rw (same_sym n class_name ∙ (free_both n f).1))

-- so what is found is that
pub found_means : (t : Texts) (a : Attrs) (n : List ℕ) {r : Option Value} → r ≡ key_found t a n
    → (r ≡ key_found t a n) × ((is_free n ≡ true → values_by t r ≡ lookup n (meaning_of t a)) × (keyed_paper t r ≡ keyed_paper t (key_found t a n)))
found_means t a n e = (e, ((λ f. ap (values_by t) e ∙ key_means t a n f), ap (keyed_paper t) e))
