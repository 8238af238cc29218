use mathlib.Core.Path.{sym}
use native.Mathlib.Omega.{arith}
use Rattle.base_lists.proofs.Sets as laws
use Rattle.base_lists.proofs.put_bytes.Goals as goal

pub loop-i-init : goal.loop-i-init
loop-i-init c = laws.puts-start _ _ _

pub loop-i-preserved : goal.loop-i-preserved
loop-i-preserved c = laws.puts_go c.loop-i.invariant (omega arith)

pub returns-after-loop-i : goal.returns-after-loop-i
returns-after-loop-i c = laws.puts_end c.loop-i.invariant (omega arith) (omega arith)

pub returns-else-at-out : goal.returns-else-at-out
returns-else-at-out c = sym (laws.sets_out c.args.out.now c.args.at c.args.s.now c.if-at-out.false)
