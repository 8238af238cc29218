-- The text of a report: reading it gives the numbers that were written, and nothing else is read.
use Rattle.std.specs.Prelude.{◌≡◌, List, ℕ, ◌≤◌, length}
use Rattle.sheet_totals.specs.Totals.{IsReport}
use Rattle.sheet_numbers.specs.Text.{totals_text, max_report, IsTotalsText}
use Rattle.sheet_numbers.specs.Computed.{Numbers, numbers_read}

-- what is read is a report's text, of the numbers that are read; and each report's text is read, to its numbers
abbrev pub TextReadExactly : Type 0
TextReadExactly = (s ns : List ℕ) → (numbers_read s ≡ Numbers.are ns → IsTotalsText s ns) × (IsTotalsText s ns → numbers_read s ≡ Numbers.are ns)

-- 384 bytes always suffice
abbrev pub TextFits : Type 0
TextFits = (ns : List ℕ) → IsReport ns → length (totals_text ns) ≤ max_report
