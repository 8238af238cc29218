-- How often an order names a slot, and how many slots a shaped order has.
-- Assumes nothing.
use mathlib.Core.Path.{◌≡◌, refl, sym, ◌∙◌, ap}
use mathlib.Core.Bool.{Bool, true, false, cond}
use mathlib.Core.List.{List, [], ◌∷◌}
use Prim.Native.Nat.{ℕ, zero, suc, ◌+◌, ◌≤◌, zero-le}
use native.Mathlib.Omega.{arith}
use lib.Dec.{eqb, ltb}
use lib.ListN.{length}
use borrow.Author.Tests.{eqb-true, eqb-false, eq-eqb, ltb-true, ltb-false, lt-ltb, le-ltb}
use Rattle.base_lists.specs.Lists.{is_some}
use Rattle.set_table.specs.Types.{Texts}
use Rattle.set_table.specs.Rows.{Rows, is_there}
use Rattle.set_table.specs.Shape.{slot_number, is_slot, times, is_present, Shaped}
use Rattle.set_table.specs.declared.Slot.{Slot}
use Rattle.set_table.specs.declared.Slot.TheVariants.{Id, Class, Key}

pub slot_refl : (x : Slot) → is_slot x x ≡ true
slot_refl x = eq-eqb (slot_number x) (slot_number x) refl

number_same : (x y : Slot) → slot_number x ≡ slot_number y → x ≡ y
number_same Id Id e = refl
number_same Id Class e = absurd (omega arith)
number_same Id (Key k) e = absurd (omega arith)
number_same Class Id e = absurd (omega arith)
number_same Class Class e = refl
number_same Class (Key k) e = absurd (omega arith)
number_same (Key j) Id e = absurd (omega arith)
number_same (Key j) Class e = absurd (omega arith)
number_same (Key j) (Key k) e = let z : j ≡ k = omega arith in ap Key z

pub slot_same : (x y : Slot) → is_slot x y ≡ true → x ≡ y
slot_same x y e = number_same x y (eqb-true (slot_number x) (slot_number y) e)

-- ---- one slot more
module _ (y : Slot) where
  pub times_le : (z : Slot) (o : List Slot) → times y o ≤ times y (z ∷ o)
  unfolding times
  times_le z o = go (is_slot y z)
    where
      go : (b : Bool) → times y o ≤ cond b (suc (times y o)) (times y o)
      go true = omega arith
      go false = omega arith

  pub times_head : (o : List Slot) → times y (y ∷ o) ≡ suc (times y o)
  unfolding times
  times_head o = rw (slot_refl y)

-- ---- how many slots an order has: the sum over all slots of how often it names each
abbrev sum : (ℕ → ℕ) → ℕ → ℕ
sum f zero = 0
sum f (suc n) = sum f n + f n

sum_same : (f g : ℕ → ℕ) → ((i : ℕ) → f i ≡ g i) → (n : ℕ) → sum f n ≡ sum g n
sum_same f g h zero = refl
sum_same f g h (suc n) = rw (h n, sum_same f g h n)

-- one function is by 1 above another at j alone
sum_one : (f : ℕ → ℕ) (j n : ℕ) → sum (λ i. cond (eqb i j) (suc (f i)) (f i)) n ≡ sum f n + cond (ltb j n) 1 0
sum_one f j zero = rw (le-ltb j 0 zero-le)
sum_one f j (suc n) = go (eqb n j) (ltb j n) refl refl (sum_one f j n)
  where
    go : (a b : Bool) → eqb n j ≡ a → ltb j n ≡ b → sum (λ i. cond (eqb i j) (suc (f i)) (f i)) n ≡ sum f n + cond (ltb j n) 1 0
        → sum (λ i. cond (eqb i j) (suc (f i)) (f i)) n + cond a (suc (f n)) (f n) ≡ sum f n + f n + cond (ltb j (suc n)) 1 0
    go true b p q h = let z = eqb-true n j p in rw (lt-ltb j (suc n) (omega arith)) (omega (arith, rw (le-ltb j n (omega arith)) at h))
    go false true p q h = rw (lt-ltb j (suc n) (omega (arith, ltb-true j n q))) (omega (arith, rw q at h))
    go false false p q h =
        let z : j ≡ n → ⊥ = λ e. eqb-false n j p (sym e) in
        rw (le-ltb j (suc n) (omega (arith, ltb-false j n q))) (omega (arith, rw q at h))

abbrev slot_at : ℕ → Slot
slot_at zero = Id
slot_at (suc zero) = Class
slot_at (suc (suc k)) = Key k

number_at : (i : ℕ) → slot_number (slot_at i) ≡ i
number_at zero = refl
number_at (suc zero) = refl
number_at (suc (suc k)) = refl

total : (o : List Slot) (n : ℕ) → ((y : Slot) → n ≤ slot_number y → times y o ≡ 0) → sum (λ i. times (slot_at i) o) n ≡ length o
unfolding times
total [] n h = none n
  where
    none : (n : ℕ) → sum (λ i. 0) n ≡ 0
    none zero = refl
    none (suc n) = rw (none n)
total (y ∷ o) n h = go (ltb (slot_number y) n) refl (total o n (λ z q. omega (arith, h z q, times_le z y o)))
  where
    go : (b : Bool) → ltb (slot_number y) n ≡ b → sum (λ i. times (slot_at i) o) n ≡ length o → sum (λ i. cond (is_slot (slot_at i) y) (suc (times (slot_at i) o)) (times (slot_at i) o)) n ≡ suc (length o)
    go true q ih = simp number_at (omega (arith, rw q at (sum_one (λ i. times (slot_at i) o) (slot_number y) n), ih))
    go false q ih = absurd (omega (arith, h y (ltb-false (slot_number y) n q), times_head y o))

-- of a shaped set: one for the id, one for the classes, one for each key
pub slots_length : {t : Texts} {s : Rows} → Shaped t s → length s.order ≡ cond (is_there s.ident) 1 0 + cond (is_some s.classes) 1 0 + length s.keys
slots_length {s = s} h =
    sym (total s.order (suc (suc (length s.keys))) none)
    ∙ sum_same (λ i. times (slot_at i) s.order) (λ i. cond (is_present s (slot_at i)) 1 0) (λ i. h.once (slot_at i)) (suc (suc (length s.keys)))
    ∙ each (length s.keys) (omega arith)
  where
    none : (y : Slot) → suc (suc (length s.keys)) ≤ slot_number y → times y s.order ≡ 0
    none Id q = absurd (omega arith)
    none Class q = absurd (omega arith)
    none (Key k) q = h.once (Key k) ∙ rw (le-ltb k (length s.keys) (omega arith))

    each : (k : ℕ) → k ≤ length s.keys → sum (λ i. cond (is_present s (slot_at i)) 1 0) (suc (suc k)) ≡ cond (is_there s.ident) 1 0 + cond (is_some s.classes) 1 0 + k
    each zero q = omega arith
    each (suc k) q = rw (lt-ltb k (length s.keys) (omega arith)) (omega (arith, each k (omega arith)))
