-- What is found is what the canonical text and the meaning have.
-- Assumes nothing.
use Rattle.std.specs.Prelude.{None, Option, Some}
use mathlib.Core.Path.{◌≡◌, refl, sym, ◌∙◌, ap}
use mathlib.Core.Bool.{Bool, true, false, cond}
use mathlib.Core.List.{List, [], ◌∷◌, map, flat_map}
use Prim.Native.Nat.{ℕ, zero, suc}
use lib.ListN.{length, take}
use Rattle.base_lists.specs.Lists.{all, same}
use Rattle.base_lists.proofs.More.{contra}
use Rattle.base_lists.proofs.Flat.{flat_append, all_flat}
use Rattle.block_grammar.specs.Meaning.{Entry, id_name, class_name, lookup, classes_once}
use Rattle.set_canon.specs.Canon.{Pair, pairs_of, pairs}
use Rattle.set_table.specs.Types.{Texts, value_bytes}
use Rattle.set_table.specs.Rows.{Ident, id_values, slot_entry, meant, rows_in, listed_of, meaning_of}
use Rattle.set_table.specs.declared.Value.{Value}
use Rattle.set_table.specs.declared.Attrs.{Attrs}
use Rattle.set_table.specs.declared.Slot.{Slot}
use Rattle.set_table.specs.declared.Slot.TheVariants as slot
use Rattle.set_items.specs.declared.Item as items
use Rattle.set_items.specs.declared.Item.TheVariants.{Missing, Id, Class, Key}
use Rattle.set_items.specs.declared.Nth as nths
use Rattle.set_items.specs.Items.{nth, item_as, named, unnamed, values_under}
use Rattle.set_items.specs.Inner.{slot_items, items_in, item_of, slot_named, first_slot}

-- ---- items that are there: as many things as items, and the n-th of one is that of the other

abbrev is_there : items.Item → Bool
is_there Missing = false
is_there (Id v) = true
is_there (Class v) = true
is_there (Key r) = true

module _ {A : Type 0} (f : List ℕ → List ℕ → A) (t : Texts) where
  as_many : (xs : List items.Item) → all is_there xs ≡ true → length (flat_map (item_as f t) xs) ≡ length xs
  unfolding flat_map item_as all
  as_many [] e = refl
  as_many (Missing ∷ xs) e = contra false e refl
  as_many (Id v ∷ xs) e = ap suc (as_many xs e)
  as_many (Class v ∷ xs) e = ap suc (as_many xs e)
  as_many (Key r ∷ xs) e = ap suc (as_many xs e)

  nth_thing : (xs : List items.Item) → all is_there xs ≡ true → (n : ℕ) → item_as f t (item_of n xs) ≡ nth n (flat_map (item_as f t) xs)
  unfolding flat_map item_as all item_of
  nth_thing [] e zero = refl
  nth_thing [] e (suc n) = refl
  nth_thing (Missing ∷ xs) e n = contra false e refl
  nth_thing (Id v ∷ xs) e zero = refl
  nth_thing (Id v ∷ xs) e (suc n) = nth_thing xs e n
  nth_thing (Class v ∷ xs) e zero = refl
  nth_thing (Class v ∷ xs) e (suc n) = nth_thing xs e n
  nth_thing (Key r ∷ xs) e zero = refl
  nth_thing (Key r ∷ xs) e (suc n) = nth_thing xs e n

-- ---- the items of a slot, and of all

module _ (a : Attrs) where
  slot_there : (s : Slot) → all is_there (slot_items a s) ≡ true
  unfolding slot_items all
  slot_there slot.Id = go a.given
    where
      go : (b : Bool) → all is_there (cond b (Id a.id ∷ []) []) ≡ true
      go true = refl
      go false = refl
  slot_there slot.Class = go (take a.nclass a.classes)
    where
      go : (vs : List Value) → all is_there (map Class vs) ≡ true
      go [] = refl
      go (v ∷ vs) = go vs
  slot_there (slot.Key k) = refl

  all_there : all is_there (items_in a) ≡ true
  unfolding items_in all
  all_there = all_flat (λ s. true) is_there (slot_items a) (λ s e. slot_there s) (rows_in a).order (every (rows_in a).order)
    where
      every : (o : List Slot) → all (λ s. true) o ≡ true
      every [] = refl
      every (s ∷ o) = every o

  module _ {A : Type 0} (f : List ℕ → List ℕ → A) (t : Texts) where
    abbrev entry_as : Entry → List A
    entry_as e = map (f e.name) e.values

    slot_as : (s : Slot) → flat_map (item_as f t) (slot_items a s) ≡ entry_as (slot_entry t (rows_in a) s)
    unfolding slot_items flat_map item_as slot_entry rows_in
    slot_as slot.Id = go a.given
      where
        go : (b : Bool) → flat_map (item_as f t) (cond b (Id a.id ∷ []) []) ≡ map (f id_name) (id_values t (cond b (Ident.given a.id) Ident.missing))
        go true = refl
        go false = refl
    slot_as slot.Class = go (take a.nclass a.classes)
      where
        go : (vs : List Value) → flat_map (item_as f t) (map Class vs) ≡ map (f class_name) (map (value_bytes t) vs)
        go [] = refl
        go (v ∷ vs) = rw (go vs)
    slot_as (slot.Key k) = refl

    all_as : flat_map (item_as f t) (items_in a) ≡ flat_map entry_as (listed_of t a)
    unfolding items_in listed_of meant flat_map
    all_as = go (rows_in a).order
      where
        go : (o : List Slot) → flat_map (item_as f t) (flat_map (slot_items a) o) ≡ flat_map entry_as (map (slot_entry t (rows_in a)) o)
        go [] = refl
        go (s ∷ o) = flat_append (item_as f t) (slot_items a s) (flat_map (slot_items a) o) ∙ (rw (slot_as s, go o))

-- ---- the items of a set whose classes are listed once

module _ (t : Texts) (a k : Attrs) (e : listed_of t k ≡ classes_once (listed_of t a)) where
  listed : pairs (meaning_of t a) ≡ flat_map (item_as named t) (items_in k)
  unfolding pairs pairs_of meaning_of
  listed = rw (← e) (sym (all_as k named t))

  pub item_said : (n : ℕ) {c : ℕ} {i : items.Item} → c ≡ length (items_in k) → i ≡ item_of n (items_in k)
      → (c ≡ length (pairs (meaning_of t a))) × (item_as named t i ≡ nth n (pairs (meaning_of t a)))
  item_said n p q = rw (listed, p, q) (sym (as_many named t (items_in k) (all_there k)), nth_thing named t (items_in k) (all_there k) n)

-- ---- the values under a name

abbrev values_at : Texts → Attrs → Option Slot → List (List ℕ)
values_at t a None = []
values_at t a (Some s) = (slot_entry t (rows_in a) s).values

first_values : (t : Texts) (a : Attrs) (n : List ℕ) (o : List Slot) → lookup n (map (slot_entry t (rows_in a)) o) ≡ values_at t a (first_slot (slot_named t a n) o)
unfolding lookup first_slot slot_named
first_values t a n [] = refl
first_values t a n (s ∷ o) = go (same (slot_entry t (rows_in a) s).name n) (first_values t a n o)
  where
    go : (b : Bool) → lookup n (map (slot_entry t (rows_in a)) o) ≡ values_at t a (first_slot (slot_named t a n) o)
        → cond b (slot_entry t (rows_in a) s).values (lookup n (map (slot_entry t (rows_in a)) o)) ≡ values_at t a (cond b (Some s) (first_slot (slot_named t a n) o))
    go true ih = refl
    go false ih = ih

module _ (t : Texts) (a k : Attrs) (e : listed_of t k ≡ classes_once (listed_of t a)) (n : List ℕ) {r : Option Slot} (p : r ≡ first_slot (slot_named t k n) (rows_in k).order) where
  under : lookup n (meaning_of t a) ≡ values_at t k r
  unfolding meaning_of listed_of meant
  under = rw (← e, p) (first_values t k n (rows_in k).order)

  pub none_said : (i : ℕ) → r ≡ None → (0 ≡ length (values_under n (meaning_of t a))) × (item_as unnamed t Missing ≡ nth i (values_under n (meaning_of t a)))
  unfolding item_as
  none_said i q = rw (under, q) (refl, go i)
    where
      go : (i : ℕ) → ◌≡◌ {A = List Pair} [] (nth i [])
      go zero = refl
      go (suc i) = refl

  pub value_said : (i : ℕ) {s : Slot} {c : ℕ} {x : items.Item} → r ≡ Some s → c ≡ length (slot_items k s) → x ≡ item_of i (slot_items k s)
      → (c ≡ length (values_under n (meaning_of t a))) × (item_as unnamed t x ≡ nth i (values_under n (meaning_of t a)))
  value_said i {s} q f g =
      let z : values_under n (meaning_of t a) ≡ flat_map (item_as unnamed t) (slot_items k s) = rw (under, q) (sym (slot_as k unnamed t s)) in
      rw (z, f, g) (sym (as_many unnamed t (slot_items k s) (slot_there k s)), nth_thing unnamed t (slot_items k s) (slot_there k s) i)

-- two clauses of a pair
pub both : {A B : Type 0} → A × B → record { count_value : A; item_value : B }
both e = record { count_value = e.0; item_value = e.1 }
