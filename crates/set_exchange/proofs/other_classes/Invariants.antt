use Rattle.set_exchange.specs.Exchange.{other_value}
use Rattle.set_exchange.proofs.Loops as loops
use Rattle.set_exchange.proofs.other_classes.Given as goal

abbrev pub invariant-loop-v : goal.invariant-loop-v
invariant-loop-v l = loops.Changes other_value l.initial.v-items l.v-items l.v-index
