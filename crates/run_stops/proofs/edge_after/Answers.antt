use Rattle.run_stops.specs.Stops.{edge_after}
use Rattle.run_stops.proofs.Laws as laws
use native.Mathlib.Omega.{arith}
use borrow.Author.Rules.{rules}
use Rattle.run_stops.proofs.edge_after.Reads as reads
use Rattle.run_stops.proofs.edge_after.Lts as lts
use Rattle.run_scanners.proofs.last_open_brace_column.Reads as last-open-brace-column-reads
use Rattle.run_stops.proofs.brace_or.Reads as brace-or-reads
use Rattle.run_stops.proofs.line_at.Reads as line-at-reads
use Rattle.run_stops.proofs.quote_behind.Reads as quote-behind-reads
use Rattle.text_lines.proofs.line_from.Reads as line-from-reads
use Rattle.run_stops.proofs.edge_after.Goals as goal

-- src/lib.rt:115:1
pub returns : goal.returns
unfolding edge_after
returns c = rw (c.brace_or-brace.ensures, c.last_open_brace_column.ensures.value, c.quote_behind-quote.ensures, c.line_at-line.ensures, c.line_from-l.ensures)
