-- The loop over the slots of a set that is put into another, and the limits: how many classes and keys there are in the end.
-- Assumes nothing.
use Rattle.std.specs.Prelude.{Ok}
use mathlib.Core.Path.{◌≡◌, refl, sym, ◌∙◌, ap}
use mathlib.Core.Bool.{Bool, true, false, cond}
use mathlib.Core.List.{List, [], ◌∷◌, map, flat_map}
use Prim.Native.Nat.{ℕ, suc, ◌+◌, ◌<◌, ◌≤◌}
use native.Mathlib.Numerals.{add-one}
use native.Mathlib.Omega.{arith}
use lib.ListN.{length, get_or, take, drop, length-append, length-map, take-append-drop, drop_of_length-le}
use lib.Seq.{drop-cons, get_or-take, length-take-le}
use borrow.Author.Tests.{ltb-true, lt-ltb, le-ltb}
use Rattle.base_lists.specs.Lists.{all, is_some}
use Rattle.base_lists.proofs.Scan.{both}
use Rattle.base_lists.proofs.More.{contra, all_parts}
use Rattle.base_lists.proofs.Each.{get_map}
use Rattle.base_refusals.specs.declared.Refusal.TheVariants.{TooManyClasses, TooManyKeys}
use Rattle.set_table.specs.Types.{Texts, max_classes, max_keys, max_slots, zero_slot}
use Rattle.set_table.specs.Rows.{Ident, Rows, Put, with_put, with_puts, slot_in, rows_in}
use Rattle.set_table.specs.Shape.{is_slot, times, is_present}
use Rattle.set_table.specs.declared.Attrs.{Attrs}
use Rattle.set_table.specs.declared.Slot.{Slot}
use Rattle.set_table.specs.declared.Slot.TheVariants.{Id, Class, Key}
use Rattle.set_table.specs.declared.Value.{Value}
use Rattle.set_table.proofs.Slots.{slot_same}
use Rattle.set_table.proofs.Puts.{puts-after, puts_grow}
use Rattle.set_table.proofs.Holding.{nclass, rows_of, held_own}
use Rattle.set_table.specs.Inner.{Holds}
use Rattle.set_table.specs.declared.Filled.{Filled}
use Rattle.set_table.specs.Filled.{refusing, limited}
use Rattle.set_merge.specs.declared.Merging.{Merging}
use Rattle.set_merge.specs.Merge.{puts_of_id, puts_at, puts_by}
use Rattle.set_merge.specs.Inner.{Steps, Sound, Fits, Present}

-- ---- how many classes there are behind puts
module _ (t : Texts) where
  -- each class counts
  all_classes : (s : Rows) (cs : List Value) → length (with_puts t s (map Put.class cs)).classes ≡ length s.classes + length cs
  unfolding with_puts with_put
  all_classes s [] = omega arith
  all_classes s (c ∷ cs) = omega (arith, all_classes (with_put t s (Put.class c)) cs, length-append s.classes (c ∷ []))

  -- the other slots have none
  module _ (b : Rows) where
    none_at : (s : Rows) (x : Slot) → is_slot Class x ≡ false → length (with_puts t s (puts_at b x)).classes ≡ length s.classes
    unfolding puts_at with_puts with_put
    none_at s Id q = go b.ident
      where
        go : (i : Ident) → length (with_puts t s (puts_of_id i)).classes ≡ length s.classes
        go Ident.missing = refl
        go (Ident.given v) = refl
    none_at s Class q = contra true refl q
    none_at s (Key k) q = refl

    here : (s : Rows) {x : Slot} → Class ≡ x → length (with_puts t s (puts_at b x)).classes ≡ length s.classes + length b.classes
    unfolding puts_at
    here s e = rw (← e) (all_classes s b.classes)

    none_from : (o : List Slot) (s : Rows) → times Class o ≡ 0 → length (with_puts t s (flat_map (puts_at b) o)).classes ≡ length s.classes
    unfolding flat_map times with_puts
    none_from [] s e = refl
    none_from (x ∷ o) s e = rw (puts-after t s (puts_at b x) (flat_map (puts_at b) o)) (go (is_slot Class x) refl e (none_from o (with_puts t s (puts_at b x))))
      where
        go : {n : ℕ} (q : Bool) → is_slot Class x ≡ q → cond q (suc (times Class o)) (times Class o) ≡ 0
            → (times Class o ≡ 0 → n ≡ length (with_puts t s (puts_at b x)).classes) → n ≡ length s.classes
        go true q e ih = absurd (omega arith)
        go false q e ih = ih e ∙ none_at s x q

    once_from : (o : List Slot) (s : Rows) → times Class o ≡ 1 → length (with_puts t s (flat_map (puts_at b) o)).classes ≡ length s.classes + length b.classes
    unfolding flat_map times
    once_from [] s e = absurd (omega arith)
    once_from (x ∷ o) s e = rw (puts-after t s (puts_at b x) (flat_map (puts_at b) o)) (go (is_slot Class x) refl e (none_from o (with_puts t s (puts_at b x))) (once_from o (with_puts t s (puts_at b x))))
      where
        go : {n : ℕ} (q : Bool) → is_slot Class x ≡ q → cond q (suc (times Class o)) (times Class o) ≡ 1
            → (times Class o ≡ 0 → n ≡ length (with_puts t s (puts_at b x)).classes) → (times Class o ≡ 1 → n ≡ length (with_puts t s (puts_at b x)).classes + length b.classes)
            → n ≡ length s.classes + length b.classes
        go true q e none ih = none (omega arith) ∙ here s (slot_same Class x q)
        go false q e none ih = omega (arith, ih e, none_at s x q)

    -- so its classes count once, if the order names them so
    pub count_classes : (s : Rows) → times Class b.order ≡ cond (is_some b.classes) 1 0 → length (with_puts t s (puts_by b)).classes ≡ length s.classes + length b.classes
    count_classes s e = go b.classes refl e
      where
        go : (cs : List Value) → b.classes ≡ cs → times Class b.order ≡ cond (is_some cs) 1 0 → length (with_puts t s (puts_by b)).classes ≡ length s.classes + length b.classes
        go [] q e = omega (arith, none_from b.order s e, ap length q)
        go (c ∷ cs) q e = once_from b.order s e

-- ---- the rows of a table that count
module _ (b : Attrs) where
  pub class_rows : length b.classes ≡ max_classes → b.nclass ≤ max_classes → length (rows_in b).classes ≡ b.nclass
  unfolding rows_in
  class_rows e l = length-take-le b.nclass b.classes (omega arith)

  pub key_rows : length b.keys ≡ max_keys → b.nkey ≤ max_keys → length (rows_in b).keys ≡ b.nkey
  unfolding rows_in
  key_rows e l = length-take-le b.nkey b.keys (omega arith)

  slot_rows : length b.order ≡ max_slots → b.norder ≤ max_slots → length (rows_in b).order ≡ b.norder
  unfolding rows_in
  slot_rows e l = length-map (take b.norder b.order) slot_in ∙ length-take-le b.norder b.order (omega arith)

  slot_at : (i : ℕ) → i < b.norder → get_or (rows_in b).order i (Key 0) ≡ (get_or b.order i zero_slot).slot
  unfolding rows_in
  slot_at i l = get_map slot_in zero_slot (take b.norder b.order) i ∙ (rw (get_or-take b.norder b.order i zero_slot l))

-- ---- the limits of the whole
module _ (w : Rows) where
  pub many_classes : {f : Filled} → max_classes < length w.classes → f ≡ refusing TooManyClasses → f ≡ limited w
  unfolding limited
  many_classes h q = q ∙ (rw (lt-ltb max_classes (length w.classes) h))

  pub many_keys : {f : Filled} → length w.classes ≤ max_classes → max_keys < length w.keys → f ≡ refusing TooManyKeys → f ≡ limited w
  unfolding limited
  many_keys h k q = q ∙ (rw (le-ltb max_classes (length w.classes) h, lt-ltb max_keys (length w.keys) k))

  pub none_many : {a : Attrs} → Holds a (rows_in a) → rows_in a ≡ w → record { outcome = Ok tt; set = a } ≡ limited w
  unfolding limited
  none_many h e = rw (h.is, e, le-ltb max_classes (length w.classes) (rw (← e) h.classes), le-ltb max_keys (length w.keys) (rw (← e) h.keys))

-- ---- the loop: the slots before i are put
pub record Merges (t : Texts) (a b : Attrs) (set : Attrs) (i : ℕ) : Type 0 where
  pub few : length (with_puts t (rows_in a) (puts_by (rows_in b))).classes ≤ max_classes
  pub held : Holds set (rows_in set)
  pub rest : with_puts t (rows_in set) (flat_map (puts_at (rows_in b)) (drop i (rows_in b).order)) ≡ with_puts t (rows_in a) (puts_by (rows_in b))

module _ (t : Texts) {a b : Attrs} (h : Holds a (rows_in a)) (g : Sound b) (c : length b.classes ≡ max_classes) where
  class_count : length (with_puts t (rows_in a) (puts_by (rows_in b))).classes ≡ a.nclass + b.nclass
  class_count = omega (arith, count_classes t (rows_in b) (rows_in a) g.once, nclass h, class_rows b c g.nclass)

  pub over_classes : {f : Filled} → max_classes < a.nclass + b.nclass → f ≡ refusing TooManyClasses → f ≡ limited (with_puts t (rows_in a) (puts_by (rows_in b)))
  over_classes l q = many_classes (with_puts t (rows_in a) (puts_by (rows_in b))) (omega (arith, class_count)) q

  pub start : a.nclass + b.nclass ≤ max_classes → Merges t a b a 0
  start l = record { few = omega (arith, class_count); held = h; rest = refl }

module _ {t : Texts} {a b set : Attrs} {i : ℕ} (inv : Merges t a b set i) where
  pub end : length b.order ≡ max_slots → b.norder ≤ max_slots → b.norder ≤ i → record { outcome = Ok tt; set = set } ≡ limited (with_puts t (rows_in a) (puts_by (rows_in b)))
  unfolding flat_map with_puts
  end o n l = none_many (with_puts t (rows_in a) (puts_by (rows_in b))) inv.held (rw (drop_of_length-le (rows_in b).order {i = i} (omega (arith, slot_rows b o n))) at inv.rest)

  -- a slot more
  module _ (g : Sound b) (o : length b.order ≡ max_slots) (l : i < b.norder) where
    cut : drop i (rows_in b).order ≡ (get_or b.order i zero_slot).slot ∷ drop (suc i) (rows_in b).order
    cut = drop-cons (rows_in b).order i (Key 0) (omega (arith, slot_rows b o g.norder)) ∙ (rw (slot_at b i l))

    parted : with_puts t (with_puts t (rows_in set) (puts_at (rows_in b) (get_or b.order i zero_slot).slot)) (flat_map (puts_at (rows_in b)) (drop (suc i) (rows_in b).order)) ≡ with_puts t (rows_in a) (puts_by (rows_in b))
    unfolding flat_map
    parted = sym (puts-after t (rows_in set) (puts_at (rows_in b) (get_or b.order i zero_slot).slot) (flat_map (puts_at (rows_in b)) (drop (suc i) (rows_in b).order))) ∙ (rw cut at inv.rest)

    grown : (length (with_puts t (rows_in set) (puts_at (rows_in b) (get_or b.order i zero_slot).slot)).classes ≤ length (with_puts t (rows_in a) (puts_by (rows_in b))).classes)
        × (length (with_puts t (rows_in set) (puts_at (rows_in b) (get_or b.order i zero_slot).slot)).keys ≤ length (with_puts t (rows_in a) (puts_by (rows_in b))).keys)
    grown = rw (← parted) (puts_grow t (with_puts t (rows_in set) (puts_at (rows_in b) (get_or b.order i zero_slot).slot)) (flat_map (puts_at (rows_in b)) (drop (suc i) (rows_in b).order)))

    pub next : {s : Merging} → Steps t set (puts_at (rows_in b) (get_or b.order i zero_slot).slot) s → s.fits ≡ true → Merges t a b s.set (i + 1)
    next h e = let z = h.done e in record { few = inv.few; held = held_own z; rest = rw (add-one, rows_of z) parted }

    pub over_keys : {s : Merging} {f : Filled} → Steps t set (puts_at (rows_in b) (get_or b.order i zero_slot).slot) s → s.fits ≡ false → f ≡ refusing TooManyKeys
        → f ≡ limited (with_puts t (rows_in a) (puts_by (rows_in b)))
    over_keys h e q = many_keys (with_puts t (rows_in a) (puts_by (rows_in b))) inv.few (omega (arith, h.over e, grown)) q

    there : is_present (rows_in b) (get_or b.order i zero_slot).slot ≡ true
    unfolding all
    there =
        let z = all_parts (is_present (rows_in b)) (take i (rows_in b).order) (drop i (rows_in b).order) (rw (take-append-drop i (rows_in b).order) g.there) in
        (both (is_present (rows_in b) (get_or b.order i zero_slot).slot) (all (is_present (rows_in b)) (drop (suc i) (rows_in b).order)) (rw cut at z.1)).0

    pub present : length b.classes ≡ max_classes → length b.keys ≡ max_keys → Present set b (get_or b.order i zero_slot).slot
    unfolding puts_at
    present c k = record { nkey = g.nkey; nclass = g.nclass; fits = go (get_or b.order i zero_slot).slot there (omega (arith, grown, inv.few)) }
      where
        go : (x : Slot) → is_present (rows_in b) x ≡ true → length (with_puts t (rows_in set) (puts_at (rows_in b) x)).classes ≤ max_classes → Fits set b x
        go Id p q = omega arith
        go Class p q = omega (arith, all_classes t (rows_in set) (rows_in b).classes, nclass inv.held, class_rows b c g.nclass)
        go (Key j) p q = omega (arith, ltb-true j (length (rows_in b).keys) p, key_rows b k g.nkey)
