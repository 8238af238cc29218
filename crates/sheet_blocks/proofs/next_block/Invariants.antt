use Prim.Native.Nat.{◌-◌}
use lib.ListN.{length}
use Rattle.sheet_blocks.proofs.Seeks as laws
use Rattle.sheet_blocks.proofs.next_block.Given as goal

abbrev pub invariant-loop-from : goal.invariant-loop-from
invariant-loop-from l = laws.Seeks l.text l.at l.initial.join l.join l.skipped l.from

abbrev pub decreases-loop-from : goal.decreases-loop-from
decreases-loop-from l = length l.text - l.from
