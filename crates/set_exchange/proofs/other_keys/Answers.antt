use native.Mathlib.Omega.{arith}
use borrow.Author.Rules.{rules}
use Rattle.set_table.specs.Types.{zero_row}
use Rattle.set_exchange.specs.Exchange.{other_row}
use Rattle.set_exchange.proofs.Loops as loops
use Rattle.set_exchange.proofs.other_keys.Goals as goal

pub loop-row-init : goal.loop-row-init
loop-row-init c = loops.start _ _

pub loop-row-preserved : goal.loop-row-preserved
loop-row-preserved c = rw c.other_row.ensures (loops.go c.loop-row.invariant zero_row (omega arith))

pub returns : goal.returns
returns c = loops.end _ _ _ (omega arith) c.loop-row.invariant (omega arith)
