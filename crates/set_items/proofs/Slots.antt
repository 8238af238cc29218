-- The loops over the slots of a set, and what a slot lists.
-- Assumes nothing.
use Rattle.std.specs.Prelude.{None, Some}
use mathlib.Core.Path.{◌≡◌, refl, sym, ◌∙◌, ap}
use mathlib.Core.Bool.{Bool, true, false}
use mathlib.Core.List.{List, [], ◌∷◌, ◌++◌, map, flat_map}
use Prim.Native.Nat.{ℕ, zero, suc, ◌+◌, ◌-◌, ◌*◌, ◌≤◌, ◌<◌, min, zero-le}
use native.Mathlib.Numerals.{add-one}
use native.Mathlib.Omega.{arith}
use lib.ListN.{length, get_or, take, drop, length-take, length-map, length-append, drop_of_length-le, get_or-eq_default, get_or-append}
use lib.Seq.{drop-cons, get_or-take, get_or-append-add}
use Rattle.base_lists.proofs.Each.{get_map}
use Rattle.set_table.specs.Types.{max_classes, max_slots, zero_value, zero_slot}
use Rattle.set_table.specs.Rows.{rows_in, slot_in}
use Rattle.set_table.specs.declared.Value.{Value}
use Rattle.set_table.specs.declared.Attrs.{Attrs}
use Rattle.set_table.specs.declared.Slot.{Slot}
use Rattle.set_items.specs.declared.Item as items
use Rattle.set_items.specs.declared.Item.TheVariants.{Missing, Class}
use Rattle.set_items.specs.Inner.{slot_items, items_in, item_of, first_slot}

-- ---- one among the first n of a list
module _ {A : Type 0} (n k : ℕ) (xs : List A) (d : A) where
  pub row_past : n ≤ k → d ≡ get_or (take n xs) k d
  row_past h = sym (get_or-eq_default (take n xs) d {n = k} (omega (arith, length-take n xs)))

  pub row_out : (m : ℕ) → length xs ≡ m → m ≤ k → d ≡ get_or (take n xs) k d
  row_out m l h = sym (get_or-eq_default (take n xs) d {n = k} (omega (arith, length-take n xs)))

  pub row_in : k < n → get_or xs k d ≡ get_or (take n xs) k d
  row_in h = sym (get_or-take n xs k d h)

-- ---- a class among the first n
module _ (n k : ℕ) (xs : List Value) where
  class_none : length (take n xs) ≤ k → Missing ≡ item_of k (map Class (take n xs))
  unfolding item_of
  class_none h = sym (get_or-eq_default (map Class (take n xs)) Missing {n = k} (simp length-map h))

  pub class_past : n ≤ k → Missing ≡ item_of k (map Class (take n xs))
  class_past h = class_none (omega (arith, length-take n xs))

  pub class_out : length xs ≡ max_classes → max_classes ≤ k → Missing ≡ item_of k (map Class (take n xs))
  class_out l h = class_none (omega (arith, length-take n xs))

class_there : (k : ℕ) (xs : List Value) → k < length xs → Class (get_or xs k zero_value) ≡ get_or (map Class xs) k Missing
class_there k [] h = absurd (omega arith)
class_there zero (x ∷ xs) h = refl
class_there (suc k) (x ∷ xs) h = class_there k xs (omega arith)

pub class_in : (n k : ℕ) (xs : List Value) → k < n → length xs ≡ max_classes → k < max_classes → Class (get_or xs k zero_value) ≡ item_of k (map Class (take n xs))
unfolding item_of
class_in n k xs h l g = ap Class (sym (get_or-take n xs k zero_value h)) ∙ class_there k (take n xs) (omega (arith, length-take n xs))

pub class_count : (n : ℕ) (xs : List Value) (k : ℕ) → length xs ≡ max_classes → k ≡ min n max_classes → k ≡ length (map Class (take n xs))
class_count n xs k l e = simp length-map (omega (arith, length-take n xs))

-- ---- one item alone
pub one_past : (x : items.Item) (n : ℕ) → 0 < n → Missing ≡ item_of n (x ∷ [])
unfolding item_of
one_past x zero h = absurd (omega arith)
one_past x (suc n) h = refl

pub one-here : (x : items.Item) (n : ℕ) → n ≡ 0 → x ≡ item_of n (x ∷ [])
unfolding item_of
one-here x n e = rw e

-- ---- the slots one after the other: p of them were passed

pub record Passed (a : Attrs) (slots p : ℕ) : Type 0 where
  pub long : length a.order ≡ max_slots
  pub many : slots ≡ min a.norder max_slots
  pub within : p ≤ slots

pub passed_start : (a : Attrs) (slots : ℕ) → length a.order ≡ max_slots → slots ≡ min a.norder max_slots → Passed a slots 0
passed_start a slots l e = record { long = l; many = e; within = zero-le }

module _ {a : Attrs} {slots p : ℕ} (inv : Passed a slots p) where
  pub passed_go : p < slots → Passed a slots (p + 1)
  passed_go h = record { long = inv.long; many = inv.many; within = omega arith }

  pub slots_end : slots ≤ p → drop p (rows_in a).order ≡ []
  unfolding rows_in
  slots_end h = drop_of_length-le (map slot_in (take a.norder a.order)) {i = p} (simp length-map (omega (arith, length-take a.norder a.order, inv.long, inv.many)))

  pub slots_next : p < slots → drop p (rows_in a).order ≡ slot_in (get_or a.order p zero_slot) ∷ drop (suc p) (rows_in a).order
  unfolding rows_in
  slots_next h =
      let o = take a.norder a.order in
      let z : slot_in (get_or a.order p zero_slot) ≡ get_or (map slot_in o) p (slot_in zero_slot) = ap slot_in (sym (get_or-take a.norder a.order p zero_slot (omega (arith, inv.many)))) ∙ sym (get_map slot_in zero_slot o p) in
      rw z (drop-cons (map slot_in o) p (slot_in zero_slot) (simp length-map (omega (arith, length-take a.norder a.order, inv.long, inv.many))))

-- ---- counting: n items were passed
pub record Counts (a : Attrs) (slots n p : ℕ) : Type 0 where
  pub at : Passed a slots p
  pub few : n ≤ max_classes * p
  pub rest : n + length (flat_map (slot_items a) (drop p (rows_in a).order)) ≡ length (items_in a)

pub counts_start : (a : Attrs) (slots : ℕ) → Passed a slots 0 → Counts a slots 0 0
unfolding items_in
counts_start a slots p = record { at = p; few = zero-le; rest = omega arith }

module _ {a : Attrs} {slots n p : ℕ} (inv : Counts a slots n p) where
  pub counts_room : p ≤ max_slots
  counts_room = omega (arith, inv.at.within, inv.at.many)

  pub counts_end : slots ≤ p → n ≡ length (items_in a)
  unfolding flat_map
  counts_end h = omega (arith, rw (slots_end inv.at h) at inv.rest)

  pub counts_go : {k : ℕ} → p < slots → k ≡ length (slot_items a (slot_in (get_or a.order p zero_slot))) → k ≤ max_classes → Counts a slots (n + k) (p + 1)
  unfolding flat_map
  counts_go {k} h e l =
      let s = slot_items a (slot_in (get_or a.order p zero_slot)) in
      let o = flat_map (slot_items a) (drop (suc p) (rows_in a).order) in
      let z : n + length (s ++ o) ≡ length (items_in a) = rw (slots_next inv.at h) at inv.rest in
      record { at = passed_go inv.at h; few = omega (arith, inv.few); rest = rw add-one (omega (arith, length-append s o, z, e)) }

-- ---- the n-th: it is the left-th from here on
pub record Seeks (a : Attrs) (slots n left p : ℕ) : Type 0 where
  pub at : Passed a slots p
  pub rest : item_of left (flat_map (slot_items a) (drop p (rows_in a).order)) ≡ item_of n (items_in a)

pub seeks_start : (a : Attrs) (slots n : ℕ) → Passed a slots 0 → Seeks a slots n n 0
unfolding items_in
seeks_start a slots n p = record { at = p; rest = refl }

module _ {a : Attrs} {slots n left p : ℕ} (inv : Seeks a slots n left p) where
  pub seeks_end : slots ≤ p → Missing ≡ item_of n (items_in a)
  unfolding flat_map item_of
  seeks_end h = rw (slots_end inv.at h) at inv.rest

  module _ (h : p < slots) {k : ℕ} (e : k ≡ length (slot_items a (slot_in (get_or a.order p zero_slot)))) where
    here : item_of left (slot_items a (slot_in (get_or a.order p zero_slot)) ++ flat_map (slot_items a) (drop (suc p) (rows_in a).order)) ≡ item_of n (items_in a)
    unfolding flat_map
    here = rw (slots_next inv.at h) at inv.rest

    pub seeks_stop : {r : items.Item} → left < k → r ≡ item_of left (slot_items a (slot_in (get_or a.order p zero_slot))) → r ≡ item_of n (items_in a)
    unfolding item_of
    seeks_stop l f =
        let s = slot_items a (slot_in (get_or a.order p zero_slot)) in
        f ∙ sym (get_or-append s (flat_map (slot_items a) (drop (suc p) (rows_in a).order)) Missing left (omega (arith, e))) ∙ here

    pub seeks_go : k ≤ left → Seeks a slots n (left - k) (p + 1)
    unfolding item_of
    seeks_go l =
        let s = slot_items a (slot_in (get_or a.order p zero_slot)) in
        let o = flat_map (slot_items a) (drop (suc p) (rows_in a).order) in
        let z : length s + (left - k) ≡ left = omega (arith, e) in
        record { at = passed_go inv.at h; rest = rw add-one (sym (get_or-append-add s o (left - k) Missing) ∙ (rw z here)) }

-- ---- the first slot that passes a test
pub record Tests (f : Slot → Bool) (a : Attrs) (slots p : ℕ) : Type 0 where
  pub at : Passed a slots p
  pub rest : first_slot f (drop p (rows_in a).order) ≡ first_slot f (rows_in a).order

pub tests_start : (f : Slot → Bool) (a : Attrs) (slots : ℕ) → Passed a slots 0 → Tests f a slots 0
tests_start f a slots p = record { at = p; rest = refl }

module _ {f : Slot → Bool} {a : Attrs} {slots p : ℕ} (inv : Tests f a slots p) where
  pub tests_end : slots ≤ p → None ≡ first_slot f (rows_in a).order
  unfolding first_slot
  tests_end h = rw (slots_end inv.at h) at inv.rest

  pub tests_stop : p < slots → f (slot_in (get_or a.order p zero_slot)) ≡ true → Some (slot_in (get_or a.order p zero_slot)) ≡ first_slot f (rows_in a).order
  unfolding first_slot
  tests_stop h e = rw (slots_next inv.at h, e) at inv.rest

  pub tests_go : p < slots → f (slot_in (get_or a.order p zero_slot)) ≡ false → Tests f a slots (p + 1)
  unfolding first_slot
  tests_go h e = record { at = passed_go inv.at h; rest = rw add-one (rw (slots_next inv.at h, e) at inv.rest) }
