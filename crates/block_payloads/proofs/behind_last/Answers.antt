use native.Mathlib.Omega.{arith}
use Rattle.block_payloads.proofs.Lines as laws
use Rattle.block_payloads.proofs.behind_last.Goals as goal

pub loop-i-init : goal.loop-i-init
loop-i-init c = laws.start _

pub loop-i-preserved : goal.loop-i-preserved
loop-i-preserved c = laws.go c.loop-i.invariant (omega arith) c.behind-best.ensures

pub returns : goal.returns
returns c = (c.loop-i.invariant.within, laws.end c.loop-i.invariant (omega arith))
