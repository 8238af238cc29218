use Prim.Native.Nat.{◌-◌}
use native.Mathlib.Omega.{arith}
use borrow.Author.Rules.{rules}
use lib.ListN.{length}
use Rattle.base_bytes.specs.declared.Mode.TheVariants.{Loose}
use Rattle.block_chain.specs.Inner.{blocks_ok}
use Rattle.block_chain.proofs.Good as good
use Rattle.block_chain.proofs.blocks_ok.Given as goal

abbrev pub invariant-blocks-2 : goal.invariant-blocks-2
invariant-blocks-2 l = good.Walks Loose l.s (blocks_ok Loose l.s l.from) l.i

abbrev pub decreases-blocks-2 : goal.decreases-blocks-2
decreases-blocks-2 l = length l.s - l.i
