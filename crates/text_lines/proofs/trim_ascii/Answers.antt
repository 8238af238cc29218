use native.Mathlib.Omega.{arith}
use borrow.Author.Rules.{rules}
use Rattle.base_lists.proofs.Scan.{run_le}
use Rattle.base_bytes.specs.Bytes.{is_space}
use Rattle.text_lines.proofs.Trim as laws
use Rattle.text_lines.proofs.trim_ascii.Goals as goal

-- `trim_ascii` puts the two halves together: the second trims what the first left. Assumes nothing.

pub slice_bounds-trim_ascii_end-count : goal.slice_bounds-trim_ascii_end-count
slice_bounds-trim_ascii_end-count c = omega (arith, c.trim_ascii_start-from.ensures, run_le is_space c.args.s.now)

pub overflow_add-result : goal.overflow_add-result
overflow_add-result c = omega (arith, laws.both_within c.args.s.now c.trim_ascii_start-from.ensures c.trim_ascii_end-left.ensures)

pub returns : goal.returns
returns c = laws.both_ends _ c.trim_ascii_start-from.ensures c.trim_ascii_end-left.ensures

pub slice_bounds-trim_ascii_end-start : goal.slice_bounds-trim_ascii_end-start
slice_bounds-trim_ascii_end-start c = omega (arith, c.trim_ascii_start-from.ensures, run_le is_space c.args.s.now)
