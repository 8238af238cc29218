-- How the text of a report is read: along the names and their tabs, and behind each tab a number and an LF. That this is the rule of Text,
-- IsTotalsText, in both directions, is proved (proved_totals/specs/Texts).
use Rattle.std.specs.Prelude.{ℕ, true, false, cond, eqb, None, Option, Some}
use mathlib.Core.List.{List, [], ◌∷◌, ◌++◌, flat_map}
use Rattle.base_bytes.specs.Bytes.{tab, lf}
use Rattle.text_digits.specs.Digits.{number_in}
use Rattle.sheet_totals.specs.Totals.{max_total, empty_totals}
use Rattle.sheet_numbers.specs.Text.{totals_names}
use Rattle.sheet_numbers.specs.declared.Reported.{Reported}

-- the names one behind the other, each with its tab
unfoldable pub names_row : List ℕ
names_row = flat_map (λ w. w ++ (tab ∷ [])) totals_names

-- what stands before the first LF and what stands behind it; or there is none
pub data LfSplit : Type 0 where
  whole : LfSplit
  parted : List ℕ → List ℕ → LfSplit

abbrev pub onto_line : ℕ → LfSplit → LfSplit
onto_line b LfSplit.whole = LfSplit.whole
onto_line b (LfSplit.parted f s) = LfSplit.parted (b ∷ f) s

unfoldable pub at_lf : List ℕ → LfSplit
at_lf [] = LfSplit.whole
at_lf (b ∷ s) = cond (eqb b lf) (LfSplit.parted [] s) (onto_line b (at_lf s))

-- the numbers, or it is no report
pub data Numbers : Type 0 where
  bad : Numbers
  are : List ℕ → Numbers

abbrev pub number_before : ℕ → Numbers → Numbers
number_before n Numbers.bad = Numbers.bad
number_before n (Numbers.are ns) = Numbers.are (n ∷ ns)

abbrev pub on_number : Option ℕ → Numbers → Numbers
on_number None r = Numbers.bad
on_number (Some n) r = number_before n r

-- behind a tab: a number that fits, and an LF; `rest` is what comes behind it
abbrev pub on_part : LfSplit → (List ℕ → Numbers) → Numbers
on_part LfSplit.whole rest = Numbers.bad
on_part (LfSplit.parted f s) rest = on_number (number_in max_total f) (rest s)

unfoldable pub numbers_along : List ℕ → List ℕ → Numbers
numbers_along [] [] = Numbers.are []
numbers_along [] (b ∷ s) = Numbers.bad
numbers_along (c ∷ w) [] = Numbers.bad
numbers_along (c ∷ w) (b ∷ s) = cond (eqb b c) (cond (eqb c tab) (on_part (at_lf s) (λ r. numbers_along w r)) (numbers_along w s)) Numbers.bad

unfoldable pub numbers_read : List ℕ → Numbers
numbers_read s = numbers_along names_row s

-- ---- the answer: a report, or that it is none, and then the empty one

abbrev pub reported_by : Numbers → Reported
reported_by Numbers.bad = record { good = false; totals = empty_totals }
reported_by (Numbers.are ns) = record { good = true; totals = record { numbers = ns } }
