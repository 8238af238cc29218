-- "decimal, no leading zero": a number is read exactly from the digits that it is written with, so that 007 and the like have no number.
use Rattle.std.specs.Prelude.{◌≡◌, List, ℕ, ◌≤◌, Some}
use Rattle.text_digits.specs.Decimal.{decimal}
use Rattle.text_digits.specs.Digits.{number_in}

-- s is the number n as it is written, and within the bound
pub record IsNumber (most : ℕ) (s : List ℕ) (n : ℕ) : Type 0 where
  pub written : s ≡ decimal n
  pub within : n ≤ most

abbrev pub ReadExactly : Type 0
ReadExactly = (most n : ℕ) (s : List ℕ) → (number_in most s ≡ Some n → IsNumber most s n) × (IsNumber most s n → number_in most s ≡ Some n)
