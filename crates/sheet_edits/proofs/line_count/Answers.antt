use native.Mathlib.Omega.{arith}
use borrow.Author.Rules.{rules}
use Prim.Native.Nat.{◌-◌}
use lib.ListN.{length}
use Rattle.sheet_edits.proofs.Walks as laws
use Rattle.sheet_edits.proofs.line_count.Reads as reads
use Rattle.sheet_edits.proofs.line_count.Lts as lts
use Rattle.text_lines.proofs.line_from.Reads as line-from-reads
use Rattle.sheet_edits.proofs.line_count.Goals as goal

-- src/lib.rt:144:5
pub loop-at-init : goal.loop-at-init
loop-at-init c = laws.counts_start _

-- src/lib.rt:146:9
pub overflow_add-n : goal.overflow_add-n
overflow_add-n c = omega (arith, c.loop-at.invariant.few)

-- src/lib.rt:144:5
pub loop-at-smaller : goal.loop-at-smaller
loop-at-smaller c = laws.counts_less (c.loop-at.invariant) (omega arith) (c.line_from-l.ensures)

-- src/lib.rt:144:5
pub loop-at-preserved : goal.loop-at-preserved
loop-at-preserved c = laws.counts_on (c.loop-at.invariant) (omega arith) (c.line_from-l.ensures)

-- src/lib.rt:139:1
pub returns : goal.returns
returns c = laws.counts_end (c.loop-at.invariant) (omega arith)
