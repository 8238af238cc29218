use native.Mathlib.Omega.{arith}
use Rattle.sheet_numbers.proofs.Laying as laws
use borrow.Author.Rules.{rules}
use Rattle.sheet_numbers.proofs.put_totals.Goals as goal

pub returns-then-out-n : goal.returns-then-out-n
returns-then-out-n c = laws.wrote_none _ c.lay-n.ensures.put_at c.lay-n.ensures.upper_bound _ (omega arith)

pub slice_bounds-put_bytes-end : goal.slice_bounds-put_bytes-end
slice_bounds-put_bytes-end c = laws.laid_long _ c.lay-n.ensures.put_at c.lay-n.ensures.upper_bound (omega arith)

pub returns : goal.returns
returns c = laws.wrote_whole _ c.lay-n.ensures.put_at c.lay-n.ensures.upper_bound _ (omega arith) (rw (laws.laid_is _ c.lay-n.ensures.put_at c.lay-n.ensures.upper_bound (omega arith)) at c.put_bytes.ensures)
