-- A number's decimal digits are the fewest that hold it, and no other count of digits is that.
-- Assumes nothing.
use mathlib.Core.Path.{◌≡◌, refl, sym, ◌∙◌, ap}
use mathlib.Core.Bool.{Bool, true, false, cond}
use mathlib.Core.List.{List, [], ◌∷◌}
use Prim.Native.Nat.{ℕ, zero, suc, ◌+◌, ◌-◌, ◌/◌, ◌%◌, ◌^◌, ◌≤◌, ◌<◌}
use native.Mathlib.Nat.{pow-le-pow_right, div-add-mod, mod-lt, pow-succ'}
use native.Mathlib.Omega.{arith}
use borrow.Author.Tests.{ltb-true, ltb-false}
use lib.Dec.{ltb}
use lib.ListN.{length, take, drop, replicate, length-append, length-replicate}
use lib.Seq.{sets, sets-eq, take_at}
use Rattle.io.specs.Digits.{last_digits, IsDigitCount, hex_digit_ascii}
use Rattle.text_digits.specs.Decimal.{places_in, places, decimal}

-- ---- the fewest

pub more : (n k : ℕ) → 10 ≤ n → IsDigitCount 10 1 (n / 10) k → IsDigitCount 10 1 n (suc k)
more n k h (a, b, c) = (omega arith, rw (pow-succ' 10 k) (omega (arith, div-add-mod n 10, mod-lt n {m = 10} (omega arith))), λ l. low k (omega arith) c)
  where
    low : (j : ℕ) → 1 ≤ j → (1 < j → 10 ^ (j - 1) ≤ n / 10) → 10 ^ (suc j - 1) ≤ n
    low zero l f = absurd (omega arith)
    low (suc zero) l f = h
    low (suc (suc j)) l f =
        let e : suc (suc j) - 1 ≡ suc j = omega arith in
        let e' : suc (suc (suc j)) - 1 ≡ suc (suc j) = omega arith in
        rw (e', pow-succ' 10 (suc j)) (omega (arith, rw e at (f (omega arith)), div-add-mod n 10))

in_steps : (left n : ℕ) → n ≤ left → IsDigitCount 10 1 n (places_in left n)
unfolding places_in
in_steps zero n h = (omega arith, omega arith, λ l. absurd (omega arith))
in_steps (suc left) n h = go (ltb n 10) refl (in_steps left (n / 10))
  where
    go : (x : Bool) → ltb n 10 ≡ x → (n / 10 ≤ left → IsDigitCount 10 1 (n / 10) (places_in left (n / 10))) → IsDigitCount 10 1 n (cond x 1 (suc (places_in left (n / 10))))
    go true e f = (omega arith, omega (arith, ltb-true n 10 e), λ l. absurd (omega arith))
    go false e f = more n (places_in left (n / 10)) (ltb-false n 10 e) (f (omega (arith, ltb-false n 10 e, div-add-mod n 10)))

pub fewest : (n : ℕ) → IsDigitCount 10 1 n (places n)
unfolding places
fewest n = in_steps n n (omega arith)

-- a count of digits that hold n is no less than the fewest
below : (n k m : ℕ) → IsDigitCount 10 1 n k → n < 10 ^ m → 1 ≤ m → k ≤ m
below n k m (a, b, c) h l = go (ltb m k) refl
  where
    go : (x : Bool) → ltb m k ≡ x → k ≤ m
    go true e = absurd (omega (arith, ltb-true m k e, c (omega (arith, ltb-true m k e)), pow-le-pow_right {n = 10} (omega arith) {i = m} {j = k - 1} (omega (arith, ltb-true m k e))))
    go false e = ltb-false m k e

pub fewest_is : (n k : ℕ) → IsDigitCount 10 1 n k → k ≡ places n
fewest_is n k f =
    let p = fewest n in
    omega (arith, below n k (places n) f p.1 p.0, below n (places n) k p f.1 f.0)

pub places_le : (n m : ℕ) → n < 10 ^ m → 1 ≤ m → places n ≤ m
places_le n m h l = below n (places n) m (fewest n) h l

-- ---- their length

pub length_digits : (k n : ℕ) → length (last_digits 10 k n) ≡ k
length_digits zero n = refl
length_digits (suc k) n = length-append (last_digits 10 k (n / 10)) (hex_digit_ascii (n % 10) ∷ []) ∙ omega (arith, length_digits k (n / 10))

pub decimal-length : (n : ℕ) → length (decimal n) ≡ places n
unfolding decimal
decimal-length n = length_digits (places n) n

pub decimal_le : (n m : ℕ) → n < 10 ^ m → 1 ≤ m → length (decimal n) ≤ m
decimal_le n m h l = omega (arith, decimal-length n, places_le n m h l)

-- what was found to be the fewest digits is the decimal
pub decimal_is : (n k : ℕ) → IsDigitCount 10 1 n k → last_digits 10 k n ≡ decimal n
unfolding decimal
decimal_is n k f = rw (fewest_is n k f)

-- ---- the digits that were written, as few as hold the number

module _ (n : ℕ) {s : List ℕ} {k : ℕ} (f : IsDigitCount 10 1 n k) (e : s ≡ last_digits 10 k n) where
  pub written_is : s ≡ decimal n
  written_is = e ∙ decimal_is n k f

  pub written_long : k ≡ length (decimal n)
  written_long = sym (length_digits k n) ∙ ap length (sym e ∙ written_is)

-- behind the first of 21 tabs, which are as many bytes as a field can have
module _ (n : ℕ) {k : ℕ} (h : n < 2 ^ 64) (e : k ≡ length (decimal n)) where
  pub field_room : k + 1 ≤ 21
  field_room = omega (arith, e, decimal_le n 20 (omega arith) (omega arith))

  pub field_is : {s : List ℕ} → s ≡ sets (replicate 21 9) 1 (decimal n) → take (k + 1) s ≡ 9 ∷ decimal n
  field_is f =
      rw (f, sets-eq (decimal n) (replicate 21 9) 1 (omega (arith, e, field_room, length-replicate {A = ℕ} 21 9)))
      (take_at (9 ∷ decimal n) (drop (1 + length (decimal n)) (replicate 21 9)) (k + 1) (omega (arith, e)))
