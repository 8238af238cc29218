-- What the code of one step asks.
-- Assumes nothing.
use Rattle.std.specs.Prelude.{Option, Some}
use mathlib.Core.Path.{◌≡◌, refl, sym, ◌∙◌, ap}
use mathlib.Core.Bool.{Bool, true, false, cond}
use mathlib.Core.List.{List, [], ◌∷◌}
use Prim.Native.Nat.{ℕ, ◌+◌, ◌-◌, ◌*◌, ◌/◌, ◌≤◌, ◌<◌}
use native.Mathlib.Nat.{div-add-mod, mod-lt}
use native.Mathlib.Omega.{arith}
use borrow.Author.Tests.{le-leb, lt-leb, leb-true}
use lib.Dec.{eqb, leb}
use Rattle.base_lists.proofs.Scan.{both}
use Rattle.base_bytes.specs.Bytes.{is_digit, within}
use Rattle.text_digits.specs.Digits.{bounded, first_digit, grown, digits_step, digits_from, digits_of, read_out, number_in}
use Rattle.text_digits.specs.declared.Digits as state
use Rattle.text_digits.specs.declared.Digits.TheVariants.{NoDigit, Zero, Number, Bad}

pub bounded_in : (most n : ℕ) → n ≤ most → Number n ≡ bounded most n
unfolding bounded
bounded_in most n h = rw (le-leb n most h)

pub bounded_out : (most n : ℕ) → most < n → Bad ≡ bounded most n
unfolding bounded
bounded_out most n h = rw (lt-leb n most h)

-- the first digit
pub from_zero : (most d : ℕ) → bounded most (0 * 10 + d) ≡ bounded most d
from_zero most d = let e : 0 * 10 + d ≡ d = omega arith in ap (bounded most) e

-- the test of the code, which no sum leaves the 64 bits in
pub past : (most digit n : ℕ) → digit ≤ most → (most - digit) / 10 < n → most < n * 10 + digit
past most digit n h k = omega (arith, div-add-mod (most - digit) 10, mod-lt (most - digit) {m = 10} (omega arith))

pub fits : (most digit n : ℕ) → digit ≤ most → n ≤ (most - digit) / 10 → n * 10 + digit ≤ most
fits most digit n h k = omega (arith, div-add-mod (most - digit) 10)

pub digit_range : (b : ℕ) → is_digit b ≡ true → (48 ≤ b) × (b ≤ 57)
unfolding is_digit within
digit_range b e = let z = both (leb 48 b) (leb b 57) e in (leb-true 48 b z.0, leb-true b 57 z.1)

-- one byte more at the front
pub from_cons : (most : ℕ) (d : state.Digits) (b : ℕ) (s : List ℕ) → digits_from most d (b ∷ s) ≡ digits_from most (digits_step most d b) s
unfolding digits_from
from_cons most d b s = refl

-- ---- a number that was read is within its bound

InBound : ℕ → state.Digits → Type 0
InBound most NoDigit = Unit {0}
InBound most Zero = Unit {0}
InBound most (Number n) = n ≤ most
InBound most Bad = Unit {0}

bounded-keeps : (most n : ℕ) → InBound most (bounded most n)
unfolding bounded InBound
bounded-keeps most n = go (leb n most) refl
  where
    go : (b : Bool) → leb n most ≡ b → InBound most (cond b (Number n) Bad)
    go true e = leb-true n most e
    go false e = tt

step_keeps : (most : ℕ) (d : state.Digits) (b : ℕ) → InBound most (digits_step most d b)
unfolding digits_step first_digit grown InBound
step_keeps most NoDigit b = go (is_digit b) (eqb b 48)
  where
    go : (x y : Bool) → InBound most (cond x (cond y Zero (bounded most (b - 48))) Bad)
    go true true = tt
    go true false = bounded-keeps most (b - 48)
    go false y = tt
step_keeps most Zero b = tt
step_keeps most (Number n) b = go (is_digit b)
  where
    go : (x : Bool) → InBound most (cond x (bounded most (n * 10 + (b - 48))) Bad)
    go true = bounded-keeps most (n * 10 + (b - 48))
    go false = tt
step_keeps most Bad b = tt

from_keeps : (most : ℕ) (d : state.Digits) (s : List ℕ) → InBound most d → InBound most (digits_from most d s)
unfolding digits_from
from_keeps most d [] h = h
from_keeps most d (b ∷ s) h = from_keeps most (digits_step most d b) s (step_keeps most d b)

pub in_bound : {most n : ℕ} (s : List ℕ) {r : Option ℕ} → r ≡ number_in most s → r ≡ Some n → n ≤ most
unfolding number_in digits_of InBound
in_bound {most} {n} s e f = go (digits_from most NoDigit s) (from_keeps most NoDigit s tt) (sym e ∙ f)
  where
    go : (d : state.Digits) → InBound most d → read_out d ≡ Some n → n ≤ most
    go NoDigit m f = let z : ◌≡◌ {A = ℕ} 0 1 = cc in absurd (omega arith)
    go Zero m f = let z : 0 ≡ n = cc in omega arith
    go (Number k) m f = let z : k ≡ n = cc in omega (arith, m)
    go Bad m f = let z : ◌≡◌ {A = ℕ} 0 1 = cc in absurd (omega arith)
