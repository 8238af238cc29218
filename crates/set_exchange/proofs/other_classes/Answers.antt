use native.Mathlib.Omega.{arith}
use borrow.Author.Rules.{rules}
use Rattle.set_table.specs.Types.{zero_value}
use Rattle.set_exchange.specs.Exchange.{other_value}
use Rattle.set_exchange.proofs.Loops as loops
use Rattle.set_exchange.proofs.other_classes.Goals as goal

pub loop-v-init : goal.loop-v-init
loop-v-init c = loops.start _ _

pub loop-v-preserved : goal.loop-v-preserved
loop-v-preserved c = rw c.other_value.ensures (loops.go c.loop-v.invariant zero_value (omega arith))

pub returns : goal.returns
returns c = loops.end _ _ _ (omega arith) c.loop-v.invariant (omega arith)
