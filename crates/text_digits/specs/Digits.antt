-- "decimal, no leading zero": a number as it is read, one byte after the other.
use Rattle.std.specs.Prelude.{ℕ, ◌+◌, ◌-◌, ◌*◌, cond, eqb, leb, None, Option, Some}
use mathlib.Core.List.{List, [], ◌∷◌, foldl}
use Rattle.base_bytes.specs.Bytes.{is_digit}
use Rattle.base_refusals.specs.Numbers.{Paper, passed_paper}
use Rattle.text_digits.specs.declared.Digits as state
use Rattle.text_digits.specs.declared.Digits.TheVariants.{NoDigit, Zero, Number, Bad}

-- above the bound it is bad
unfoldable pub bounded : ℕ → ℕ → state.Digits
bounded most n = cond (leb n most) (Number n) Bad

unfoldable pub first_digit : ℕ → ℕ → state.Digits
first_digit most b = cond (is_digit b) (cond (eqb b 48) Zero (bounded most (b - 48))) Bad

unfoldable pub grown : ℕ → ℕ → ℕ → state.Digits
grown most n b = cond (is_digit b) (bounded most (n * 10 + (b - 48))) Bad

-- nothing may stand behind a zero at the front, and what is bad stays bad
unfoldable pub digits_step : ℕ → state.Digits → ℕ → state.Digits
digits_step most NoDigit b = first_digit most b
digits_step most Zero b = Bad
digits_step most (Number n) b = grown most n b
digits_step most Bad b = Bad

unfoldable pub digits_from : ℕ → state.Digits → List ℕ → state.Digits
digits_from most d s = foldl (digits_step most) d s

unfoldable pub digits_of : ℕ → List ℕ → state.Digits
digits_of most s = digits_from most NoDigit s

-- no digit is no number
abbrev pub read_out : state.Digits → Option ℕ
read_out NoDigit = None
read_out Zero = Some 0
read_out (Number n) = Some n
read_out Bad = None

-- the number that s is, if there is one: exactly where s is its `decimal` (proved_valves/specs/Numbers)
unfoldable pub number_in : ℕ → List ℕ → Option ℕ
number_in most s = read_out (digits_of most s)

-- ---- on paper: what was read so far, as 0 to 3 and then the number where there is one; and the number that was read, if there is one
abbrev pub digits_paper : state.Digits → Paper
digits_paper NoDigit = passed_paper (0 ∷ [])
digits_paper Zero = passed_paper (1 ∷ [])
digits_paper (Number n) = passed_paper (2 ∷ n ∷ [])
digits_paper Bad = passed_paper (3 ∷ [])

abbrev pub decimal_paper : Option ℕ → Paper
decimal_paper None = passed_paper []
decimal_paper (Some n) = passed_paper (n ∷ [])
