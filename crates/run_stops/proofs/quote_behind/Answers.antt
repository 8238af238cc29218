use Rattle.run_stops.proofs.Laws as laws
use native.Mathlib.Omega.{arith}
use mathlib.Core.Path.{◌∙◌, ap}
use Rattle.run_scanners.specs.Scanners.{open_quote_at_end}
use Rattle.text_lines.proofs.Trim.{core_from, core_to, core_is}
use borrow.Author.Rules.{rules}
use Rattle.run_stops.proofs.quote_behind.Reads as reads
use Rattle.run_stops.proofs.quote_behind.Lts as lts
use Rattle.run_scanners.proofs.open_quote_at_end.Reads as open-quote-at-end-reads
use Rattle.text_lines.proofs.trim_ascii.Reads as trim-ascii-reads
use Rattle.run_stops.proofs.quote_behind.Goals as goal

-- src/lib.rt:111:37
pub slice_bounds-open_quote_at_end-count : goal.slice_bounds-open_quote_at_end-count
slice_bounds-open_quote_at_end-count c = omega (arith, core_from c.args.line.now c.trim_ascii-r.ensures)

-- src/lib.rt:111:37
pub slice_bounds-open_quote_at_end-start : goal.slice_bounds-open_quote_at_end-start
slice_bounds-open_quote_at_end-start c = omega (arith, core_from c.args.line.now c.trim_ascii-r.ensures, core_to c.args.line.now c.trim_ascii-r.ensures)

-- src/lib.rt:111:37
pub slice_bounds-open_quote_at_end-end : goal.slice_bounds-open_quote_at_end-end
slice_bounds-open_quote_at_end-end c = omega (arith, core_to c.args.line.now c.trim_ascii-r.ensures)

-- src/lib.rt:105:1
pub returns : goal.returns
returns c = c.open_quote_at_end.ensures.value ∙ ap open_quote_at_end (core_is c.args.line.now c.trim_ascii-r.ensures)
