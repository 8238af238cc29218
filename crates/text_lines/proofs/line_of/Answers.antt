use Prim.Native.Nat.{◌-◌}
use native.Mathlib.Omega.{arith}
use borrow.Author.Rules.{rules}
use lib.ListN.{length}
use Rattle.text_lines.specs.Lines.{line_of, line_paper}
use Rattle.base_refusals.proofs.Said.{said}
use Rattle.text_lines.proofs.Lines as laws
use Rattle.text_lines.proofs.Counted.{line_paper_lem}
use Rattle.text_lines.proofs.line_of.Goals as goal

-- `line_of` goes from line to line and counts down. Assumes nothing.

pub returns-then-number-eq0 : goal.returns-then-number-eq0
returns-then-number-eq0 c = said line_paper (line_paper_lem _ _) (laws.counts_zero _ _ c.if-number-eq0.true)

pub loop-at-init : goal.loop-at-init
loop-at-init c = laws.counts_start _ _ c.if-number-eq0.false

pub returns-then-left-eq1 : goal.returns-then-left-eq1
returns-then-left-eq1 c = said line_paper (line_paper_lem _ _) (laws.counts_stop c.loop-at.invariant (omega arith) c.line_from-l.ensures c.if-left-eq1.true)

pub loop-at-smaller : goal.loop-at-smaller
loop-at-smaller c = laws.counts_less c.loop-at.invariant (omega arith) c.line_from-l.ensures

pub loop-at-preserved : goal.loop-at-preserved
loop-at-preserved c = laws.counts_go c.loop-at.invariant (omega arith) c.line_from-l.ensures c.if-left-eq1.false

pub returns : goal.returns
returns c = said line_paper (line_paper_lem _ _) (laws.counts_end c.loop-at.invariant (omega arith))
