-- "`trim_ascii` and its two halves drop space, tab, LF, FF, CR. `is_blank_line`: nothing remains after that."
use Rattle.std.specs.Prelude.{◌≡◌, List, ℕ, ◌≤◌, length}
use Rattle.std.proofs.Math.Seq.{slice}
use Rattle.base_lists.specs.Lists.{all}
use Rattle.base_bytes.specs.Bytes.{is_space}
use Rattle.text_lines.specs.Trim.{trim, trim_range, is_blank_line}

-- what remains stands in s, from one place to the other
pub record TrimmedPart (s : List ℕ) : Type 0 where
  pub ordered : (trim_range s).from ≤ (trim_range s).to
  pub inside : (trim_range s).to ≤ length s
  pub bytes : slice (trim_range s).from (trim_range s).to s ≡ trim s

-- .. of every text
abbrev pub TrimCutsOut : Type 0
TrimCutsOut = (s : List ℕ) → TrimmedPart s

-- a line is blank exactly where every byte is one of the five
abbrev pub BlankIsAllSpace : Type 0
BlankIsAllSpace = (s : List ℕ) → is_blank_line s ≡ all is_space s
