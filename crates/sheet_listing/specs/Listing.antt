-- The listing of a sheet: the dealers' table as text, or the line of its refusal.
use Rattle.std.specs.Prelude.{ℕ, zero, suc, cond, ltb, Err, None, Ok, Option, Result, Some}
use mathlib.Core.List.{List, [], ◌∷◌, ◌++◌, flat_map}
use Rattle.base_bytes.specs.Bytes.{tab, lf, hyphen}
use Rattle.base_refusals.specs.Numbers.{number_of}
use Rattle.base_refusals.specs.declared.Refusal.{Refusal}
use Rattle.text_digits.specs.Decimal.{decimal}
use Rattle.sheet_valves.specs.Tables.{variant_count}
use Rattle.sheet_valves.specs.Pairs.{row_of}
use Rattle.sheet_valves.specs.declared.Table.{Table}
use Rattle.sheet_variants.specs.declared.Variants as answer
use Rattle.sheet_report.specs.Report.{refused_word, report_line}

-- ---- a table

-- the valve of a wheel, `-` where the cell is unfilled
abbrev pub valve_text : Option ℕ → List ℕ
valve_text None = hyphen ∷ []
valve_text (Some n) = decimal n

-- a field stands behind a tab
abbrev pub valve_field : Option ℕ → List ℕ
valve_field x = tab ∷ valve_text x

unfoldable pub fields_text : List (Option ℕ) → List ℕ
fields_text xs = flat_map valve_field xs

-- a line: the variant, and a field for each wheel
unfoldable pub row_text : Table → ℕ → List ℕ
row_text t v = decimal v ++ (fields_text (row_of t v) ++ (lf ∷ []))

-- the lines of n variants from v on
unfoldable pub rows_text : Table → ℕ → ℕ → List ℕ
rows_text t v zero = []
rows_text t v (suc n) = row_text t v ++ rows_text t (suc v) n

unfoldable pub table_text : Table → List ℕ
table_text t = rows_text t 1 variant_count

-- ---- a refusal

-- the variant, where the refusal is of one: 21
abbrev pub variant_field : ℕ → List ℕ
variant_field zero = []
variant_field (suc v) = tab ∷ decimal (suc v)

-- "`refused`, first line, line count, number", as in a report
unfoldable pub refusal_text : ℕ → ℕ → ℕ → Refusal → List ℕ
refusal_text n k v r = report_line refused_word n k (decimal (number_of r) ++ variant_field v)

-- ---- the whole

abbrev pub listing_by : answer.Variants → Result (Unit {0}) Refusal → List ℕ
listing_by a (Err r) = refusal_text a.line a.lines a.variant r
listing_by a (Ok _) = table_text a.table

unfoldable pub listing : answer.Variants → List ℕ
listing a = listing_by a a.outcome

-- No listing is longer: 30 lines of at most two digits, four fields of a tab and at most three digits, and the LF. The line of a refusal
-- is far shorter.
abbrev pub max_listing : ℕ
max_listing = 570

-- what is laid into lent memory of that size: nothing where the longest listing has no room
unfoldable pub listing_in : ℕ → answer.Variants → List ℕ
listing_in size a = cond (ltb size max_listing) [] (listing a)
