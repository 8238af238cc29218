use Rattle.run_stops.proofs.Laws as laws
use native.Mathlib.Omega.{arith}
use mathlib.Core.Path.{sym}
use Rattle.block_trimmed_line.proofs.Trimmed.{line_none, front_to}
use borrow.Author.Rules.{rules}
use Rattle.run_stops.proofs.line_at.Reads as reads
use Rattle.run_stops.proofs.line_at.Lts as lts
use Rattle.text_lines.proofs.line_from.Reads as line-from-reads
use Rattle.run_stops.proofs.line_at.Goals as goal

-- src/lib.rt:97:9
pub returns-then-text-at : goal.returns-then-text-at
returns-then-text-at c = sym (line_none c.args.text.now c.args.at c.if-text-at.true)

-- src/lib.rt:101:5
pub slice_bounds-result-count : goal.slice_bounds-result-count
slice_bounds-result-count c = omega (arith, front_to c.args.text.now c.args.at c.line_from-l.ensures c.if-text-at.false)

-- src/lib.rt:101:5
pub slice_bounds-result-start : goal.slice_bounds-result-start
slice_bounds-result-start c = omega (arith, front_to c.args.text.now c.args.at c.line_from-l.ensures c.if-text-at.false)

-- src/lib.rt:101:5
pub slice_bounds-result-end-2 : goal.slice_bounds-result-end-2
slice_bounds-result-end-2 c = omega (arith, front_to c.args.text.now c.args.at c.line_from-l.ensures c.if-text-at.false)

-- src/lib.rt:93:1
pub returns : goal.returns
returns c = laws.line_part c.args.text.now c.args.at c.line_from-l.ensures
