use Rattle.run_stops.proofs.Laws as laws
use native.Mathlib.Omega.{arith}
use mathlib.Core.Path.{sym, ◌∙◌, ap}
use lib.ListN.{length}
use Rattle.text_lines.specs.Trim.{trim_range}
use Rattle.text_lines.proofs.Trim.{core_from, core_to, core_is}
use Rattle.run_stops.specs.Stops.{entries_place, entries_in}
use borrow.Author.Rules.{rules}
use Rattle.run_stops.proofs.entries_place.Reads as reads
use Rattle.run_stops.proofs.entries_place.Lts as lts
use Rattle.run_stops.proofs.entries_in.Reads as entries-in-reads
use Rattle.run_stops.proofs.line_at.Reads as line-at-reads
use Rattle.text_lines.proofs.trim_ascii.Reads as trim-ascii-reads
use Rattle.run_stops.proofs.entries_place.Goals as goal

-- src/lib.rt:216:5
pub overflow_add-result : goal.overflow_add-result
overflow_add-result c = omega (arith, laws.line_room c.args.text.now c.args.at 18446744073709551615 (omega arith) (omega arith), core_from c.line_at-line.result.now c.trim_ascii-r.ensures, core_to c.line_at-line.result.now c.trim_ascii-r.ensures, ap length c.line_at-line.ensures)

-- src/lib.rt:216:28
pub slice_bounds-entries_in-count : goal.slice_bounds-entries_in-count
slice_bounds-entries_in-count c = omega (arith, core_from c.line_at-line.result.now c.trim_ascii-r.ensures)

-- src/lib.rt:216:28
pub slice_bounds-entries_in-start : goal.slice_bounds-entries_in-start
slice_bounds-entries_in-start c = omega (arith, core_from c.line_at-line.result.now c.trim_ascii-r.ensures, core_to c.line_at-line.result.now c.trim_ascii-r.ensures)

-- src/lib.rt:216:28
pub slice_bounds-entries_in-end : goal.slice_bounds-entries_in-end
slice_bounds-entries_in-end c = omega (arith, core_to c.line_at-line.result.now c.trim_ascii-r.ensures)

-- src/lib.rt:216:5
pub overflow_add-result-2 : goal.overflow_add-result-2
overflow_add-result-2 c = omega (arith, laws.line_room c.args.text.now c.args.at 18446744073709551615 (omega arith) (omega arith), laws.entries_short c.line_at-line.result.now c.trim_ascii-r.ensures c.entries_in.ensures, ap length c.line_at-line.ensures)

-- src/lib.rt:209:1
pub returns : goal.returns
unfolding entries_place
returns c = rw (c.entries_in.ensures, core_is c.line_at-line.result.now c.trim_ascii-r.ensures, c.trim_ascii-r.ensures, c.line_at-line.ensures)
