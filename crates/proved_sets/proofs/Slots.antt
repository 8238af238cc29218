-- How often an order names a slot, and how many slots a shaped set has.
-- Assumes nothing.
use mathlib.Core.Path.{◌≡◌}
use mathlib.Core.Bool.{Bool, true, false, cond}
use mathlib.Core.List.{List, [], ◌∷◌, ◌++◌}
use Prim.Native.Nat.{suc, ◌+◌, ◌≤◌}
use native.Mathlib.Omega.{arith}
use lib.ListN.{length}
use Rattle.base_lists.specs.Lists.{is_some}
use Rattle.base_lists.proofs.More.{eqb_sym}
use Rattle.set_table.specs.Types.{Texts, max_keys, max_slots}
use Rattle.set_table.specs.Rows.{Rows, is_there}
use Rattle.set_table.specs.Shape.{slot_number, is_slot, times, Shaped}
use Rattle.set_table.specs.declared.Slot.{Slot}
use Rattle.set_table.proofs.Slots.{slots_length}
use Rattle.proved_sets.specs.HandedOut.{FewSlots}

pub slot_sym : (x y : Slot) → is_slot x y ≡ is_slot y x
slot_sym x y = eqb_sym (slot_number x) (slot_number y)

module _ (y : Slot) where
  pub times_more : (o : List Slot) (x : Slot) → times y (o ++ (x ∷ [])) ≡ times y o + cond (is_slot y x) 1 0
  unfolding times
  times_more [] x = go (is_slot y x)
    where
      go : (b : Bool) → cond b 1 0 ≡ 0 + cond b 1 0
      go true = omega arith
      go false = omega arith
  times_more (z ∷ o) x = go (is_slot y z) (times_more o x)
    where
      go : (b : Bool) → times y (o ++ (x ∷ [])) ≡ times y o + cond (is_slot y x) 1 0
          → cond b (suc (times y (o ++ (x ∷ [])))) (times y (o ++ (x ∷ []))) ≡ cond b (suc (times y o)) (times y o) + cond (is_slot y x) 1 0
      go true h = omega arith
      go false h = h

pub slots : {t : Texts} {s : Rows} → FewSlots t s
slots {s = s} h = go (is_there s.ident) (is_some s.classes) (slots_length h)
  where
    go : (a b : Bool) → length s.order ≡ cond a 1 0 + cond b 1 0 + length s.keys → length s.order ≤ 2 + length s.keys
    go true true e = omega arith
    go true false e = omega arith
    go false true e = omega arith
    go false false e = omega arith

-- so whoever keeps the limit on keys keeps that on slots
pub slots_fit : {t : Texts} {s : Rows} → Shaped t s → length s.keys ≤ max_keys → length s.order ≤ max_slots
slots_fit h l = omega (arith, slots h)
