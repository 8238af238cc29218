use mathlib.Core.Path.{◌∙◌}
use native.Mathlib.Omega.{arith}
use Rattle.sheet_numbers.proofs.Fields as laws
use Rattle.sheet_numbers.proofs.field_at.Goals as goal

pub loop-at-init : goal.loop-at-init
loop-at-init c = laws.scans_start _ _

pub returns-then-b-eq10 : goal.returns-then-b-eq10
returns-then-b-eq10 c = c.field_of.ensures ∙ laws.scans_lf c.loop-at.invariant (omega arith) c.if-b-eq10.true

pub loop-at-preserved : goal.loop-at-preserved
loop-at-preserved c = rw c.step-d.ensures.value (laws.scans_go c.loop-at.invariant (omega arith) c.if-b-eq10.false)

pub returns : goal.returns
returns c = laws.scans_end c.loop-at.invariant (omega arith)
