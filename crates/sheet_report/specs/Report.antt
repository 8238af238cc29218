-- "The sheet program": what is written for a sheet.
use Rattle.std.specs.Prelude.{ℕ, cond, Err, Ok, Result}
use mathlib.Core.List.{List, [], ◌∷◌, ◌++◌, flat_map}
use Rattle.base_refusals.specs.Numbers.{too_long, number_of}
use Rattle.base_refusals.specs.declared.Refusal.{Refusal}
use Rattle.base_refusals.specs.declared.Refusal.TheVariants.{CanonTooLong}
use Rattle.text_checks.specs.Check.{check_of}
use Rattle.set_canon.specs.Canon.{canon}
use Rattle.set_table.specs.Types.{Texts}
use Rattle.set_table.specs.Rows.{meaning_of}
use Rattle.set_table.specs.declared.Attrs.{Attrs}
use Rattle.read_blocks.specs.Blocks.{lines_of, texts_in, filled_found}
use Rattle.sheet_blocks.specs.Sheets.{Try, blocks_of}
use Rattle.text_digits.specs.Decimal.{decimal}
use Rattle.base_bytes.specs.Bytes.{lf, tab}

-- ---- a line

-- "`block`"
abbrev pub block_word : List ℕ
block_word = 98 ∷ 108 ∷ 111 ∷ 99 ∷ 107 ∷ []

-- "`refused`"
abbrev pub refused_word : List ℕ
refused_word = 114 ∷ 101 ∷ 102 ∷ 117 ∷ 115 ∷ 101 ∷ 100 ∷ []

-- "parted by tabs"; "The last field runs to LF"
unfoldable pub report_line : List ℕ → ℕ → ℕ → List ℕ → List ℕ
report_line word n k last = word ++ (tab ∷ decimal n ++ (tab ∷ decimal k ++ (tab ∷ last ++ (lf ∷ []))))

-- "`refused`, first line, line count, number"
unfoldable pub refused_line : ℕ → ℕ → Refusal → List ℕ
refused_line n k r = report_line refused_word n k (decimal (number_of r))

-- "`block`, first line, line count, canonical text": 10 where the canonical text x is above the size
unfoldable pub canon_line : ℕ → ℕ → List ℕ → List ℕ
canon_line n k x = cond (too_long x) (refused_line n k CanonTooLong) (report_line block_word n k x)

-- "or for 6, 7 or 10 `refused`": the set is over the texts t
abbrev pub line_by : ℕ → ℕ → Texts → Attrs → Result (Unit {0}) Refusal → List ℕ
line_by n k t a (Ok _) = canon_line n k (canon (meaning_of t a))
line_by n k t a (Err r) = refused_line n k r

-- ---- the report

-- what is written for a block of the text t
unfoldable pub block_line : List ℕ → Try → List ℕ
block_line t x = line_by x.line (lines_of x.found) (texts_in t x.found) (filled_found t x.at x.found).set (filled_found t x.at x.found).outcome

-- "On a block it writes ..": a line for each
unfoldable pub report_of : List ℕ → List Try → List ℕ
report_of t xs = flat_map (block_line t) xs

-- "For 1 or 2 the only output is `refused`, 0, 0, number."
abbrev pub report_by : List ℕ → Result (Unit {0}) Refusal → List ℕ
report_by t (Err r) = refused_line 0 0 r
report_by t (Ok _) = report_of t (blocks_of t)

unfoldable pub report : List ℕ → List ℕ
report t = report_by t (check_of t)
