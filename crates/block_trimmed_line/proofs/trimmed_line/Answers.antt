use native.Mathlib.Omega.{arith}
use Rattle.block_trimmed_line.proofs.Trimmed as laws
use borrow.Author.Rules.{rules}
use Rattle.block_trimmed_line.proofs.trimmed_line.Goals as goal

pub returns-then-text-at : goal.returns-then-text-at
returns-then-text-at c = laws.front_none _ _ c.line_from-l.ensures c.if-text-at.true

pub slice_bounds-trim_ascii-count : goal.slice_bounds-trim_ascii-count
slice_bounds-trim_ascii-count c = omega (arith, laws.front_to _ _ c.line_from-l.ensures c.if-text-at.false)

pub overflow_add-from : goal.overflow_add-from
overflow_add-from c = omega (arith, laws.front_fits _ _ c.line_from-l.ensures c.if-text-at.false c.trim_ascii-r.ensures)

pub overflow_add-to : goal.overflow_add-to
overflow_add-to c = omega (arith, laws.front_fits _ _ c.line_from-l.ensures c.if-text-at.false c.trim_ascii-r.ensures)

pub slice_bounds-line-count : goal.slice_bounds-line-count
slice_bounds-line-count c = omega (arith, laws.front_fits _ _ c.line_from-l.ensures c.if-text-at.false c.trim_ascii-r.ensures)

pub slice_bounds-line-start : goal.slice_bounds-line-start
slice_bounds-line-start c = omega (arith, laws.front_fits _ _ c.line_from-l.ensures c.if-text-at.false c.trim_ascii-r.ensures)

pub slice_bounds-line-end : goal.slice_bounds-line-end
slice_bounds-line-end c = omega (arith, laws.front_fits _ _ c.line_from-l.ensures c.if-text-at.false c.trim_ascii-r.ensures)

pub returns : goal.returns
returns c =
    laws.front_is _ _ c.line_from-l.ensures c.if-text-at.false c.trim_ascii-r.ensures c.begins_open-opens.ensures c.ends_in_close-closes.ensures

pub slice_bounds-trim_ascii-start : goal.slice_bounds-trim_ascii-start
slice_bounds-trim_ascii-start c = omega (arith, laws.front_to _ _ c.line_from-l.ensures c.if-text-at.false)

pub slice_bounds-trim_ascii-end : goal.slice_bounds-trim_ascii-end
slice_bounds-trim_ascii-end c = omega (arith, laws.front_to _ _ c.line_from-l.ensures c.if-text-at.false)
