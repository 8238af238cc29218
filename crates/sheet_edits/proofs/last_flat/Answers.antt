use native.Mathlib.Omega.{arith}
use Rattle.sheet_edits.proofs.Walks as laws
use Rattle.sheet_edits.proofs.last_flat.Goals as goal

pub loop-i-init : goal.loop-i-init
loop-i-init c = laws.lasts_start _

pub begins_flat-requires : goal.begins_flat-requires
begins_flat-requires c = (omega arith, omega (arith, c.loop-i.invariant.within))

pub returns-then-begins_flat : goal.returns-then-begins_flat
returns-then-begins_flat c = laws.lasts_stop c.loop-i.invariant (omega arith) c.begins_flat.ensures c.if-begins_flat.true

pub loop-i-preserved : goal.loop-i-preserved
loop-i-preserved c = laws.lasts_on c.loop-i.invariant (omega arith) c.begins_flat.ensures c.if-begins_flat.false

pub returns : goal.returns
returns c = laws.lasts_end c.loop-i.invariant (omega arith)
