-- "One record a line, name, tab, number.": what is written.
use Rattle.std.specs.Prelude.{◌≡◌, ℕ, List, [], ◌∷◌, ◌++◌}
use Rattle.base_bytes.specs.Bytes.{tab, lf}
use Rattle.text_digits.specs.Decimal.{decimal}
use Rattle.sheet_totals.specs.Totals.{IsReport}

-- "in this order: `sheets` .., printed `blocks`, `wrapped` ones, printed refusals `refused-1`, `refused-2`, `refused-6`, `refused-7`, `refused-10`, `classes`
-- .. and distinct `keys` .., lines `joined` and total `lookahead` .., `longest` printed block in lines"
abbrev pub totals_names : List (List ℕ)
totals_names =
    (115 ∷ 104 ∷ 101 ∷ 101 ∷ 116 ∷ 115 ∷ [])
    ∷ (98 ∷ 108 ∷ 111 ∷ 99 ∷ 107 ∷ 115 ∷ [])
    ∷ (119 ∷ 114 ∷ 97 ∷ 112 ∷ 112 ∷ 101 ∷ 100 ∷ [])
    ∷ (114 ∷ 101 ∷ 102 ∷ 117 ∷ 115 ∷ 101 ∷ 100 ∷ 45 ∷ 49 ∷ [])
    ∷ (114 ∷ 101 ∷ 102 ∷ 117 ∷ 115 ∷ 101 ∷ 100 ∷ 45 ∷ 50 ∷ [])
    ∷ (114 ∷ 101 ∷ 102 ∷ 117 ∷ 115 ∷ 101 ∷ 100 ∷ 45 ∷ 54 ∷ [])
    ∷ (114 ∷ 101 ∷ 102 ∷ 117 ∷ 115 ∷ 101 ∷ 100 ∷ 45 ∷ 55 ∷ [])
    ∷ (114 ∷ 101 ∷ 102 ∷ 117 ∷ 115 ∷ 101 ∷ 100 ∷ 45 ∷ 49 ∷ 48 ∷ [])
    ∷ (99 ∷ 108 ∷ 97 ∷ 115 ∷ 115 ∷ 101 ∷ 115 ∷ [])
    ∷ (107 ∷ 101 ∷ 121 ∷ 115 ∷ [])
    ∷ (106 ∷ 111 ∷ 105 ∷ 110 ∷ 101 ∷ 100 ∷ [])
    ∷ (108 ∷ 111 ∷ 111 ∷ 107 ∷ 97 ∷ 104 ∷ 101 ∷ 97 ∷ 100 ∷ [])
    ∷ (108 ∷ 111 ∷ 110 ∷ 103 ∷ 101 ∷ 115 ∷ 116 ∷ [])
    ∷ []

-- "name, tab, number", and an LF behind it
unfoldable pub number_line : List ℕ → ℕ → List ℕ
number_line w n = w ++ (tab ∷ (decimal n ++ (lf ∷ [])))

-- "One record a line"
unfoldable pub number_lines : List (List ℕ) → List ℕ → List ℕ
number_lines [] ns = []
number_lines (w ∷ ws) [] = []
number_lines (w ∷ ws) (n ∷ ns) = number_line w n ++ number_lines ws ns

unfoldable pub totals_text : List ℕ → List ℕ
totals_text ns = number_lines totals_names ns

-- no text of a report is longer: the names, and behind each a tab, at most 20 digits and an LF
abbrev pub max_report : ℕ
max_report = 384

-- the rule of what is read: s is the text of the report whose numbers are ns
pub record IsTotalsText (s ns : List ℕ) : Type 0 where
  pub written : s ≡ totals_text ns
  pub report : IsReport ns
