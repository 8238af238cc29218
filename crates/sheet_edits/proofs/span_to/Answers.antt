use Rattle.sheet_edits.specs.Edits.{span_to}
use borrow.Author.Rules.{rules}
use Rattle.sheet_edits.proofs.span_to.Reads as reads
use Rattle.sheet_edits.proofs.span_to.Lts as lts
use Rattle.text_lines.proofs.line_from.Reads as line-from-reads
use Rattle.text_lines.proofs.line_of.Reads as line-of-reads
use Rattle.sheet_edits.proofs.span_to.Goals as goal

-- src/lib.rt:25:1
pub returns-in-None : goal.returns-in-None
unfolding span_to
returns-in-None c = rw (← c.line_of.ensures.value, c.in-None.is)

-- src/lib.rt:25:1
pub returns-in-Some : goal.returns-in-Some
unfolding span_to
returns-in-Some c = rw (← c.line_of.ensures.value, c.in-Some.is, c.line_from-e.ensures)
