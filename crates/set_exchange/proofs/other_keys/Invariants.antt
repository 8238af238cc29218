use Rattle.set_exchange.specs.Exchange.{other_row}
use Rattle.set_exchange.proofs.Loops as loops
use Rattle.set_exchange.proofs.other_keys.Given as goal

abbrev pub invariant-loop-row : goal.invariant-loop-row
invariant-loop-row l = loops.Changes other_row l.initial.row-items l.row-items l.row-index
