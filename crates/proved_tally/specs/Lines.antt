-- "printed `blocks`", "printed refusals": the verdict on a block against the line that the sheet program writes for it.
use Rattle.std.specs.Prelude.{◌≡◌, List, ℕ, Err, Ok}
use Rattle.base_refusals.specs.declared.Refusal.{Refusal}
use Rattle.set_canon.specs.Canon.{canon}
use Rattle.read_blocks.specs.Blocks.{lines_of}
use Rattle.sheet_blocks.specs.Sheets.{Try}
use Rattle.sheet_verdicts.specs.Verdicts.{verdict_at}
use Rattle.sheet_report.specs.Report.{block_word, report_line, refused_line, block_line}
use Rattle.proved_sheets.specs.Report.{meant_by}

pub record LineTells (t : List ℕ) (x : Try) : Type 0 where
  -- "it writes `block`, first line, line count, canonical text" exactly where the block is printed
  pub printed : verdict_at t x ≡ Ok tt → block_line t x ≡ report_line block_word x.line (lines_of x.found) (canon (meant_by t x))
  pub only_printed : (y : List ℕ) → block_line t x ≡ report_line block_word x.line (lines_of x.found) y → verdict_at t x ≡ Ok tt
  -- "or .. `refused`, first line, line count, number" exactly where that is its number
  pub refused : (r : Refusal) → verdict_at t x ≡ Err r → block_line t x ≡ refused_line x.line (lines_of x.found) r
  pub only_refused : (r : Refusal) → block_line t x ≡ refused_line x.line (lines_of x.found) r → verdict_at t x ≡ Err r

-- of every block of every text
abbrev pub VerdictLines : Type 0
VerdictLines = (t : List ℕ) (x : Try) → LineTells t x
