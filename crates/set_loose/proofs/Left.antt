-- What becomes of a slot, case by case.
-- Assumes nothing.
use Rattle.std.specs.Prelude.{None, Some}
use mathlib.Core.Path.{◌≡◌, sym}
use Prim.Native.Nat.{ℕ, suc, ◌-◌, ◌<◌, ◌≤◌}
use native.Mathlib.Omega.{arith}
use borrow.Author.Tests.{eq-eqb, ne_eqb, lt-ltb, le-ltb}
use Rattle.set_table.specs.declared.Slot.TheVariants.{Id, Class, Key}
use Rattle.set_loose.specs.Inner.{kept_of}

pub id_stays : (k : ℕ) → Some Id ≡ kept_of k Id
id_stays k = rw (ne_eqb (suc (suc k)) 0 (λ e. omega arith))

pub class_stays : (k : ℕ) → Some Class ≡ kept_of k Class
class_stays k = rw (ne_eqb (suc (suc k)) 1 (λ e. omega arith))

pub key_gone : (k j : ℕ) → j ≡ k → None ≡ kept_of k (Key j)
key_gone k j e = rw (eq-eqb (suc (suc k)) (suc (suc j)) (omega arith))

pub key_lower : (k j : ℕ) → k < j → Some (Key (j - 1)) ≡ kept_of k (Key j)
key_lower k j h = rw (ne_eqb (suc (suc k)) (suc (suc j)) (λ e. omega arith), lt-ltb k j h)

pub key_stays : (k j : ℕ) → (j ≡ k → ⊥) → j ≤ k → Some (Key j) ≡ kept_of k (Key j)
key_stays k j n h = rw (ne_eqb (suc (suc k)) (suc (suc j)) (λ e. n (omega arith)), le-ltb k j h)
