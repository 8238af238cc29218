use borrow.Author.Rules.{rules}
use Rattle.text_lines.proofs.Trim as laws
use Rattle.text_lines.proofs.is_blank_line.Goals as goal

-- `is_blank_line`: the whitespace at the front is all. Assumes nothing.

pub returns : goal.returns
returns c = laws.blank_run _ c.trim_ascii_start-from.ensures
