-- The loop over the slots of an order, and the row of a slot.
-- Assumes nothing.
use Rattle.std.specs.Prelude.{None, Option, Some}
use mathlib.Core.Path.{◌≡◌, refl, sym, ap}
use mathlib.Core.List.{List, [], ◌∷◌, map}
use Prim.Native.Nat.{ℕ, suc, ◌+◌, ◌≤◌, ◌<◌}
use native.Mathlib.Numerals.{add-one}
use native.Mathlib.Omega.{arith}
use lib.ListN.{length, get_or, take, drop, length-take, drop_of_length-le, get_or-eq_default}
use lib.Seq.{drop-cons, get_or-take}
use Rattle.set_table.specs.Types.{zero_row, max_keys, max_slots}
use Rattle.set_table.specs.declared.Row.{Row}
use Rattle.set_table.specs.declared.Value.{Value}
use Rattle.set_keyed.specs.Keyed.{or_keyed, first_by}

-- ---- a row among those that count

pub row_past : (n k : ℕ) (keys : List Row) → n ≤ k → zero_row ≡ get_or (take n keys) k zero_row
row_past n k keys h = sym (get_or-eq_default (take n keys) zero_row {n = k} (omega (arith, length-take n keys)))

pub row_out : (n k : ℕ) (keys : List Row) → length keys ≡ max_keys → max_keys ≤ k → zero_row ≡ get_or (take n keys) k zero_row
row_out n k keys l h = sym (get_or-eq_default (take n keys) zero_row {n = k} (omega (arith, length-take n keys)))

pub row_in : (n k : ℕ) (keys : List Row) → k < n → get_or keys k zero_row ≡ get_or (take n keys) k zero_row
row_in n k keys h = sym (get_or-take n keys k zero_row h)

-- ---- the loop: k slots gave nothing

pub first_map : {A B : Type 0} (f : B → Option Value) (g : A → B) (xs : List A) → first_by f (map g xs) ≡ first_by (λ x. f (g x)) xs
unfolding first_by
first_map f g [] = refl
first_map f g (x ∷ xs) = rw (first_map f g xs)

-- k slots gave a
pub record Seeks {A : Type 0} (f : A → Option Value) (xs : List A) (n k : ℕ) (a : Option Value) : Type 0 where
  pub long : length xs ≡ max_slots
  pub rest : or_keyed a (first_by f (drop k (take n xs))) ≡ first_by f (take n xs)

pub seeks_start : {A : Type 0} (f : A → Option Value) (xs : List A) (n : ℕ) → length xs ≡ max_slots → Seeks f xs n 0 None
seeks_start f xs n l = record { long = l; rest = refl }

pub or_missing : (a : Option Value) → or_keyed a None ≡ a
or_missing None = refl
or_missing (Some v) = refl

or_or : (a b c : Option Value) → or_keyed (or_keyed a b) c ≡ or_keyed a (or_keyed b c)
or_or None b c = refl
or_or (Some v) b c = refl

module _ {A : Type 0} {f : A → Option Value} {xs : List A} {n k : ℕ} {a : Option Value} (inv : Seeks f xs n k a) where
  pub seeks_all : length (take n xs) ≤ k → a ≡ first_by f (take n xs)
  unfolding first_by
  seeks_all h = rw (drop_of_length-le (take n xs) {i = k} h, or_missing a) at inv.rest

  pub seeks_end : n ≤ k → a ≡ first_by f (take n xs)
  seeks_end h = seeks_all (omega (arith, length-take n xs))

  pub seeks_out : max_slots ≤ k → a ≡ first_by f (take n xs)
  seeks_out h = seeks_all (omega (arith, length-take n xs, inv.long))

  module _ (d : A) (h : k < max_slots) (l : k < n) where
    next : drop k (take n xs) ≡ get_or xs k d ∷ drop (suc k) (take n xs)
    next = rw (← get_or-take n xs k d l) (drop-cons (take n xs) k d (omega (arith, length-take n xs, inv.long)))

    pub seeks_go : {b : Option Value} → b ≡ or_keyed a (f (get_or xs k d)) → Seeks f xs n (k + 1) b
    unfolding first_by
    seeks_go {b} e = record { long = inv.long; rest = rw (add-one, e, or_or a (f (get_or xs k d))) (rw next at inv.rest) }

-- a search stops where a slot gives a value
pub seeks_stop : {A : Type 0} {f : A → Option Value} {xs : List A} {n k : ℕ} → Seeks f xs n k None → (d : A) → k < max_slots → k < n → {v : Value} → f (get_or xs k d) ≡ Some v
    → Some v ≡ first_by f (take n xs)
unfolding first_by
seeks_stop inv d h l e = rw (next inv d h l, e) at inv.rest
