-- What the code's own functions promise. No definition of a public promise rests on these.
use Rattle.std.specs.Prelude.{ℕ, suc, ◌+◌, cond, List, [], ◌∷◌, ◌++◌, eqb, length, drop, None, Option, Some}
use Rattle.base_bytes.specs.Bytes.{tab, lf}
use Rattle.text_digits.specs.Decimal.{decimal}
use Rattle.text_digits.specs.Digits.{number_in}
use Rattle.sheet_totals.specs.Totals.{max_total}
use Rattle.sheet_numbers.specs.Computed.{LfSplit, at_lf}

-- a tab, a number and an LF
abbrev pub number_end : ℕ → List ℕ
number_end n = (tab ∷ decimal n) ++ (lf ∷ [])

-- the number at a place and the place behind its LF
abbrev pub field_by : ℕ → Option ℕ → Option (ℕ × ℕ)
field_by next None = None
field_by next (Some n) = Some (n, next)

abbrev pub field_in : ℕ → LfSplit → Option (ℕ × ℕ)
field_in at LfSplit.whole = None
field_in at (LfSplit.parted f s) = field_by (at + suc (length f)) (number_in max_total f)

unfoldable pub number_at : List ℕ → ℕ → Option (ℕ × ℕ)
number_at t at = field_in at (at_lf (drop at t))
