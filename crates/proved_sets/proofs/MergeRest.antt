-- A set that is put into one with nothing in it brings at most its own keys.
-- Assumes nothing.
use Prim.Native.Nat.{ℕ, suc, ◌+◌, ◌≤◌}
use mathlib.Core.Path.{◌≡◌, refl, ap}
use mathlib.Core.Bool.{Bool, true, false, cond}
use mathlib.Core.List.{List, [], ◌∷◌, map, flat_map}
use native.Mathlib.Omega.{arith}
use lib.ListN.{length, get_or}
use borrow.Author.Tests.{ne_eqb}
use Rattle.set_table.specs.Types.{Texts, zero_row}
use Rattle.set_table.specs.Rows.{Ident, Rows, Put, no_rows, with_put, with_puts}
use Rattle.set_table.specs.Shape.{is_slot, times, Shaped}
use Rattle.set_table.specs.declared.Slot.{Slot}
use Rattle.set_table.specs.declared.Slot.TheVariants.{Id, Class, Key}
use Rattle.set_table.specs.declared.Value.{Value}
use Rattle.set_table.proofs.Slots.{slots_length}
use Rattle.set_table.proofs.Puts.{key_count, puts-after}
use Rattle.set_merge.specs.Merge.{puts_of_id, puts_at, puts_by}

module _ (t : Texts) where
  module _ (b : Rows) where
    class_keys : (s : Rows) (cs : List Value) → (with_puts t s (map Put.class cs)).keys ≡ s.keys
    unfolding with_puts with_put
    class_keys s [] = refl
    class_keys s (c ∷ cs) = class_keys (with_put t s (Put.class c)) cs

    keys_at : (s : Rows) (x : Slot) → length (with_puts t s (puts_at b x)).keys + cond (is_slot Id x) 1 0 + cond (is_slot Class x) 1 0 ≤ length s.keys + 1
    unfolding puts_at with_puts with_put
    keys_at s Id = go b.ident
      where
        go : (i : Ident) → length (with_puts t s (puts_of_id i)).keys + 1 + 0 ≤ length s.keys + 1
        go Ident.missing = omega arith
        go (Ident.given v) = omega arith
    keys_at s Class = omega (arith, ap length (class_keys s b.classes))
    keys_at s (Key k) =
        let r = get_or b.keys k zero_row in
        rw (ne_eqb 0 (suc (suc k)) (omega arith), ne_eqb 1 (suc (suc k)) (omega arith)) (omega (arith, key_count t r.name r.value s.keys))

    keys_from : (o : List Slot) (s : Rows) → length (with_puts t s (flat_map (puts_at b) o)).keys + times Id o + times Class o ≤ length s.keys + length o
    unfolding flat_map times with_puts
    keys_from [] s = omega arith
    keys_from (x ∷ o) s = rw (puts-after t s (puts_at b x) (flat_map (puts_at b) o)) (omega (arith, keys_at s x, keys_from o (with_puts t s (puts_at b x)), more (is_slot Id x) (times Id o), more (is_slot Class x) (times Class o)))
      where
        more : (q : Bool) (n : ℕ) → cond q (suc n) n ≡ n + cond q 1 0
        more true n = omega arith
        more false n = omega arith

    -- so a shaped set puts at most its keys into a set with nothing in it
    pub own_keys : Shaped t b → length (with_puts t no_rows (puts_by b)).keys ≤ length b.keys
    own_keys h = omega (arith, keys_from b.order no_rows, slots_length h, h.once Id, h.once Class)
