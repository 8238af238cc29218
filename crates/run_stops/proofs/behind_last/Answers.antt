use native.Mathlib.Omega.{arith}
use Rattle.block_payloads.proofs.Lines as lines
use Rattle.run_stops.proofs.Laws as laws
use Rattle.run_stops.proofs.behind_last.Goals as goal

pub loop-i-init : goal.loop-i-init
loop-i-init c = lines.start _

pub loop-i-preserved : goal.loop-i-preserved
loop-i-preserved c = lines.go c.loop-i.invariant (omega arith) c.behind-best.ensures

pub returns : goal.returns
returns c = laws.last_is c.args.s.now c.loop-i.invariant.within (lines.end c.loop-i.invariant (omega arith))
