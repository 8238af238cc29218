-- "On a block it writes `block`, first line, line count, canonical text, parted by tabs, or for 6, 7 or 10 `refused`, first line, line count, number": what the lines of a
-- report say.
use Rattle.std.specs.Prelude.{◌≡◌, true, List, [], ◌∷◌, ℕ, ◌≤◌, length, Err}
use Rattle.io.specs.Digits.{last_digits, IsDigitCount}
use Rattle.base_lists.specs.Lists.{is_in}
use Rattle.base_refusals.specs.Numbers.{max_text, number_of}
use Rattle.base_refusals.specs.declared.Refusal.{Refusal}
use Rattle.text_checks.specs.Check.{check_of}
use Rattle.block_grammar.specs.Meaning.{Entry}
use Rattle.set_canon.specs.Canon.{canon}
use Rattle.set_table.specs.Rows.{meaning_of}
use Rattle.read_blocks.specs.Blocks.{lines_of, texts_in, filled_found}
use Rattle.sheet_blocks.specs.Sheets.{Try, blocks_of}
use Rattle.text_digits.specs.Decimal.{decimal}
use Rattle.sheet_report.specs.Report.{block_word, report_line, refused_line, block_line, report}
use Rattle.sheet_report.specs.Parts.{max_line}
use Rattle.proved_sheets.specs.Order.{Each}

-- ---- a line

-- what a line says of the block of k lines whose first is line n, and whose set means m
pub data Says (n k : ℕ) (m : List Entry) : List ℕ → Type 0 where
  block : length (canon m) ≤ max_text → Says n k m (report_line block_word n k (canon m))
  refused : (r : Refusal) → is_in (6 ∷ 7 ∷ 10 ∷ []) (number_of r) ≡ true → Says n k m (refused_line n k r)

-- what the set of a block means
abbrev pub meant_by : List ℕ → Try → List Entry
meant_by t x = meaning_of (texts_in t x.found) (filled_found t x.at x.found).set

-- the line of a block says that, and none is longer than `max_line`
pub record Good (t : List ℕ) (x : Try) : Type 0 where
  pub says : Says x.line (lines_of x.found) (meant_by t x) (block_line t x)
  pub short : length (block_line t x) ≤ max_line

-- of each block of a sheet
abbrev pub LinesGood : Type 0
LinesGood = (t : List ℕ) → length t ≤ max_text → Each (Good t) (blocks_of t)

-- numbers are written in the fewest digits that hold them, by the kit's own definition: the last k digits of n
abbrev pub FewestDigits : Type 0
FewestDigits = (n : ℕ) → (k : ℕ) × ((decimal n ≡ last_digits 10 k n) × IsDigitCount 10 1 n k)

-- ---- "For 1 or 2 the only output is `refused`, 0, 0, number."

abbrev pub TextRefused : Type 0
TextRefused = (t : List ℕ) (r : Refusal) → check_of t ≡ Err r → (report t ≡ refused_line 0 0 r) × (is_in (1 ∷ 2 ∷ []) (number_of r) ≡ true)
