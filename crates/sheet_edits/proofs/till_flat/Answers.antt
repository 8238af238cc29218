use native.Mathlib.Omega.{arith}
use Rattle.sheet_edits.proofs.Walks as laws
use Rattle.sheet_edits.proofs.till_flat.Goals as goal

pub loop-i-init : goal.loop-i-init
loop-i-init c = laws.tills_start _ _

pub returns-then-is_flat : goal.returns-then-is_flat
returns-then-is_flat c = laws.tills_stop (c.loop-i.invariant) (omega arith) (c.is_flat.ensures) (c.if-is_flat.true)

pub loop-i-preserved : goal.loop-i-preserved
loop-i-preserved c = laws.tills_on (c.loop-i.invariant) (omega arith) (c.is_flat.ensures) (c.if-is_flat.false)

pub returns : goal.returns
returns c = let r = laws.tills_end c.loop-i.invariant (omega arith) in (omega (arith, r.0), omega arith)
