-- The two loops that write the rows and the slots without one, and the table of both.
-- Assumes nothing.
use Rattle.std.specs.Prelude.{None, Option, Some}
use mathlib.Core.Path.{◌≡◌, refl, sym, ◌∙◌, ap}
use mathlib.Core.Bool.{Bool, true, false, cond}
use mathlib.Core.List.{List, [], ◌∷◌, ◌++◌, map, map-append, append_assoc, append-nil}
use Prim.Native.Nat.{ℕ, suc, ◌+◌, ◌-◌, ◌<◌, ◌≤◌, zero-le}
use native.Mathlib.Numerals.{add-one}
use native.Mathlib.Omega.{arith}
use borrow.Author.Tests.{ltb-true, ltb-false, lt-ltb, le-ltb}
use lib.Dec.{ltb}
use lib.ListN.{length, get_or, set, take, drop, replicate, length-map, length-append, drop_of_length-le}
use lib.Seq.{take-suc, take_all, length-take-le, get_or-take, drop-cons}
use Rattle.set_table.specs.Types.{max_keys, max_slots, zero_row, zero_slot}
use Rattle.set_table.specs.Rows.{padded, held, slot_in, table_of, rows_in}
use Rattle.set_table.specs.Shape.{is_slot, times}
use Rattle.set_table.specs.declared.Row.{Row}
use Rattle.set_table.specs.declared.Slot.{Slot}
use Rattle.set_table.specs.declared.Slot.TheVariants.{Id, Class, Key}
use Rattle.set_table.specs.declared.SlotRecord.{SlotRecord}
use Rattle.set_table.specs.declared.Attrs.{Attrs}
use Rattle.set_table.proofs.Table.{padded_more}
use Rattle.set_loose.specs.Without.{without_at, lowered, slots_without}
use Rattle.set_loose.specs.Inner.{raised, kept_of}
use Rattle.set_loose.proofs.Without.{gone-length, gone_get}

-- ---- rows: i of the first n rows without row k are written
pub record Moves (keys : List Row) (n k : ℕ) (out : List Row) (i : ℕ) : Type 0 where
  pub long : length keys ≡ max_keys
  pub few : n ≤ max_keys
  pub there : k < n
  pub within : i < n
  pub is : out ≡ padded max_keys zero_row (take i (without_at k (take n keys)))

pub moves_start : (keys : List Row) (n k : ℕ) → length keys ≡ max_keys → (n ≤ max_keys) × (k < n) → Moves keys n k (replicate max_keys zero_row) 0
unfolding padded
moves_start keys n k e l = record { long = e; few = l.0; there = l.1; within = omega arith; is = refl }

module _ {keys : List Row} {n k : ℕ} {out : List Row} {i : ℕ} (inv : Moves keys n k out i) where
  left_long : suc (length (without_at k (take n keys))) ≡ n
  left_long =
      let z = length-take-le n keys (omega arith) in
      gone-length k (take n keys) (omega arith) ∙ z

  module _ {m : ℕ} (h : i + 1 < n) (e : m ≡ raised k i) where
    pub stood_inside : m < n
    stood_inside = rw e (go (ltb i k) refl)
      where
        go : (b : Bool) → ltb i k ≡ b → cond b i (suc i) < n
        go true q = omega arith
        go false q = omega arith

    stood_row : get_or keys m zero_row ≡ get_or (without_at k (take n keys)) i zero_row
    stood_row = sym (get_or-take n keys m zero_row stood_inside) ∙ ap (λ j. get_or (take n keys) j zero_row) e ∙ sym (gone_get zero_row k i (take n keys))

    pub moves_go : Moves keys n k (set out i (get_or keys m zero_row)) (i + 1)
    moves_go =
        let l = left_long in
        let w : length (take i (without_at k (take n keys))) ≡ i = length-take-le i (without_at k (take n keys)) (omega arith) in
        let z = padded_more max_keys zero_row (take i (without_at k (take n keys))) (get_or (without_at k (take n keys)) i zero_row) (omega arith) in
        record {
          long = inv.long;
          few = inv.few;
          there = inv.there;
          within = omega arith;
          is = rw (stood_row, inv.is, add-one, take-suc (without_at k (take n keys)) i zero_row (omega arith)) (rw w at z);
        }

  pub moves_end : n ≤ i + 1 → out ≡ padded max_keys zero_row (without_at k (take n keys))
  moves_end h = let l = left_long in inv.is ∙ ap (padded max_keys zero_row) (take_all i (without_at k (take n keys)) (omega arith))

-- ---- slots: i were looked at, j of them stay
pub record Keeps (k : ℕ) (order : List SlotRecord) (n : ℕ) (out : List SlotRecord) (i j : ℕ) : Type 0 where
  pub done : List Slot
  pub is : out ≡ padded max_slots zero_slot (map held done)
  pub long : length done ≡ j
  pub few : j ≤ i
  pub within : i ≤ n
  pub rest : done ++ slots_without k (map slot_in (drop i (take n order))) ≡ slots_without k (map slot_in (take n order))

pub keeps-start : (k : ℕ) (order : List SlotRecord) (n : ℕ) → Keeps k order n (replicate max_slots zero_slot) 0 0
unfolding padded
keeps-start k order n = record { done = []; is = refl; long = refl; few = zero-le; within = zero-le; rest = refl }

module _ {k : ℕ} {order : List SlotRecord} {n : ℕ} {out : List SlotRecord} {i j : ℕ} (inv : Keeps k order n out i j) (long : length order ≡ max_slots) (l : n ≤ max_slots) where
  module _ (h : i < n) {r : Option Slot} (e : r ≡ kept_of k (slot_in (get_or order i zero_slot))) where
    step : drop i (take n order) ≡ get_or order i zero_slot ∷ drop (suc i) (take n order)
    step =
        let z = length-take-le n order (omega arith) in
        drop-cons (take n order) i zero_slot (omega arith) ∙ rw (get_or-take n order i zero_slot h)

    pub keeps-gone : r ≡ None → Keeps k order n out (i + 1) j
    unfolding slots_without
    keeps-gone p =
        record {
          done = inv.done;
          is = inv.is;
          long = inv.long;
          few = omega (arith, inv.few);
          within = omega arith;
          rest = rw (add-one i) (rw (step, gone (is_slot (Key k) (slot_in (get_or order i zero_slot))) refl) at inv.rest);
        }
      where
        gone : (b : Bool) → is_slot (Key k) (slot_in (get_or order i zero_slot)) ≡ b → is_slot (Key k) (slot_in (get_or order i zero_slot)) ≡ true
        gone true q = q
        gone false q = let y : kept_of k (slot_in (get_or order i zero_slot)) ≡ Some (lowered k (slot_in (get_or order i zero_slot))) = rw q in
            let z : ◌≡◌ {A = ℕ} 0 1 = cc in absurd (omega arith)

    pub keeps_stays : {x : Slot} → r ≡ Some x → Keeps k order n (set out j (held x)) (i + 1) (j + 1)
    unfolding slots_without
    keeps_stays {x} p =
        let s = stays (is_slot (Key k) (slot_in (get_or order i zero_slot))) refl in
        let m : length (map held inv.done) ≡ j = length-map inv.done held ∙ inv.long in
        let z = padded_more max_slots zero_slot (map held inv.done) (held x) (omega (arith, inv.few)) in
        record {
          done = inv.done ++ (x ∷ []);
          is = rw (inv.is, map-append held inv.done (x ∷ [])) (rw m at z);
          long = length-append inv.done (x ∷ []) ∙ ap (λ a. a + 1) inv.long;
          few = omega (arith, inv.few);
          within = omega arith;
          rest = rw (add-one i, append_assoc inv.done (x ∷ []) (slots_without k (map slot_in (drop (suc i) (take n order))))) (rw (step, s.0, s.1) at inv.rest);
        }
      where
        stays : (b : Bool) → is_slot (Key k) (slot_in (get_or order i zero_slot)) ≡ b
            → (is_slot (Key k) (slot_in (get_or order i zero_slot)) ≡ false) × (lowered k (slot_in (get_or order i zero_slot)) ≡ x)
        stays true q = let y : kept_of k (slot_in (get_or order i zero_slot)) ≡ None = rw q in
            let z : ◌≡◌ {A = ℕ} 0 1 = cc in absurd (omega arith)
        stays false q = let y : kept_of k (slot_in (get_or order i zero_slot)) ≡ Some (lowered k (slot_in (get_or order i zero_slot))) = rw q in (q, cc)

  pub keeps_end : n ≤ i → out ≡ padded max_slots zero_slot (map held (slots_without k (map slot_in (take n order))))
  unfolding slots_without
  keeps_end h =
      let z = length-take-le n order (omega arith) in
      inv.is ∙ ap (λ d. padded max_slots zero_slot (map held d)) (sym (append-nil inv.done) ∙ (rw (drop_of_length-le (take n order) {i = i} (omega arith)) at inv.rest))

-- ---- how many slots are left
pub slots_left : (k : ℕ) (o : List Slot) → length (slots_without k o) + times (Key k) o ≡ length o
unfolding slots_without times
slots_left k [] = refl
slots_left k (y ∷ o) = go (is_slot (Key k) y) (slots_left k o)
  where
    go : (b : Bool) → length (slots_without k o) + times (Key k) o ≡ length o
        → length (cond b (slots_without k o) (lowered k y ∷ slots_without k o)) + cond b (suc (times (Key k) o)) (times (Key k) o) ≡ suc (length o)
    go true h = omega arith
    go false h = omega arith
