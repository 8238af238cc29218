-- What a well-formed set puts may be put, and says what the set lists.
-- Assumes nothing.
use mathlib.Core.Path.{◌≡◌, refl}
use mathlib.Core.Bool.{true, false}
use mathlib.Core.List.{List, [], ◌∷◌, map, map-append, flat_map}
use lib.ListN.{length}
use borrow.Author.Tests.{ltb-true}
use Rattle.base_lists.specs.Lists.{all, is_some}
use Rattle.base_lists.proofs.Scan.{both}
use Rattle.base_lists.proofs.More.{contra, all_weaker}
use Rattle.base_lists.proofs.Flat.{all_flat}
use Rattle.block_grammar.specs.Meaning.{Entry, id_name, class_name}
use Rattle.proved_grammar.specs.Meaning.{put, puts}
use Rattle.proved_grammar.proofs.Views.{puts-append}
use Rattle.set_table.specs.Types.{Texts, value_bytes, zero_row}
use Rattle.set_table.specs.Rows.{Ident, Rows, Put, is_there, id_values, slot_entry, meant}
use Rattle.set_table.specs.Shape.{is_present}
use Rattle.set_table.specs.declared.Slot.{Slot}
use Rattle.set_table.specs.declared.Slot.TheVariants.{Id, Class, Key}
use Rattle.set_table.specs.declared.Value.{Value}
use Rattle.set_table.proofs.Puts.{is_allowed}
use Rattle.proved_sets.proofs.Shaping.{put_entry}
use Rattle.proved_sets.proofs.Items.{entry, classes_puts}
use Rattle.set_values.specs.Values.{ident_ok, class_ok, key_ok}
use Rattle.base_lists.proofs.Each.{all_at}
use Rattle.set_wellformed.proofs.Shape.{Passed, slots_named}
use Rattle.proved_sets.proofs.PutsKept.{put_ok, allowed}
use Rattle.set_merge.specs.Merge.{puts_of_id, puts_at, puts_by}

module _ {t : Texts} {s : Rows} (h : Passed t s) where
  -- ---- what is put is good, and so may be put
  good_at : (x : Slot) → is_present s x ≡ true → all (put_ok t) (puts_at s x) ≡ true
  unfolding puts_at put_ok all
  good_at Id p = go s.ident h.ident
    where
      go : (i : Ident) → ident_ok t i ≡ true → all (put_ok t) (puts_of_id i) ≡ true
      go Ident.missing k = refl
      go (Ident.given v) k = rw k
  good_at Class p = go s.classes h.classes
    where
      go : (cs : List Value) → all (class_ok t) cs ≡ true → all (put_ok t) (map Put.class cs) ≡ true
      go [] k = refl
      go (c ∷ cs) k = let z = both (class_ok t c) (all (class_ok t) cs) k in rw z.0 (go cs z.1)
  good_at (Key k) p = rw (all_at (key_ok t) zero_row s.keys h.keys k (ltb-true k (length s.keys) p))

  pub good_puts : all (put_ok t) (puts_by s) ≡ true
  good_puts = all_flat (is_present s) (put_ok t) (puts_at s) good_at s.order (slots_named s h.slots)

  -- ---- what is put says what the slots mean
  says_at : (m : List Entry) (x : Slot) → is_present s x ≡ true → puts m (map (put_entry t) (puts_at s x)) ≡ put m (slot_entry t s x)
  unfolding puts_at put_entry slot_entry puts
  says_at m Id p = go s.ident p
    where
      go : (i : Ident) → is_there i ≡ true → puts m (map (put_entry t) (puts_of_id i)) ≡ put m (record { name = id_name; values = id_values t i })
      go Ident.missing q = contra false q refl
      go (Ident.given v) q = refl
  says_at m Class p = go s.classes p
    where
      each : (cs : List Value) → map (put_entry t) (map Put.class cs) ≡ map (λ u. entry class_name (u ∷ [])) (map (value_bytes t) cs)
      each [] = refl
      each (c ∷ cs) = rw (each cs)

      go : (cs : List Value) → is_some cs ≡ true → puts m (map (put_entry t) (map Put.class cs)) ≡ put m (record { name = class_name; values = map (value_bytes t) cs })
      go [] q = contra false q refl
      go (c ∷ cs) q = rw (each (c ∷ cs)) (classes_puts (map (value_bytes t) cs) (value_bytes t c) m)
  says_at m (Key k) p = refl

  says_from : (o : List Slot) (m : List Entry) → all (is_present s) o ≡ true → puts m (map (put_entry t) (flat_map (puts_at s) o)) ≡ puts m (map (slot_entry t s) o)
  unfolding flat_map puts all
  says_from [] m a = refl
  says_from (x ∷ o) m a =
      let z = both (is_present s x) (all (is_present s) o) a in
      rw (map-append, puts-append m (map (put_entry t) (puts_at s x)) (map (put_entry t) (flat_map (puts_at s) o)), says_at m x z.0) (says_from o (put m (slot_entry t s x)) z.1)

  pub says : (m : List Entry) → puts m (map (put_entry t) (puts_by s)) ≡ puts m (meant t s)
  unfolding meant
  says m = says_from s.order m (slots_named s h.slots)

pub all_allowed : (t : Texts) (ps : List Put) → all (put_ok t) ps ≡ true → all (is_allowed t) ps ≡ true
all_allowed t ps h = all_weaker (put_ok t) (is_allowed t) (allowed t) ps h
