use Prim.Native.Nat.{◌-◌}
use native.Mathlib.Omega.{arith}
use borrow.Author.Rules.{rules}
use lib.ListN.{length}
use Rattle.base_bytes.specs.declared.Mode.TheVariants.{Loose}
use Rattle.block_chain.specs.Inner.{blocks_ok}
use Rattle.block_chain.proofs.Good as good
use Rattle.block_chain.proofs.blocks_ok.Goals as goal

pub blocks-2-init : goal.blocks-2-init
blocks-2-init c = good.start _ _ _ c.requires

pub block_close-requires : goal.block_close-requires
block_close-requires c = omega (arith, c.if-s-i.false)

pub overflow_add-i : goal.overflow_add-i
overflow_add-i c = omega (arith, good.ahead c.blocks-2.invariant c.block_close.ensures c.in-Some.is)

pub blocks-2-smaller : goal.blocks-2-smaller
blocks-2-smaller c = omega (arith, good.ahead c.blocks-2.invariant c.block_close.ensures c.in-Some.is)

pub blocks-2-preserved : goal.blocks-2-preserved
blocks-2-preserved c = good.go c.blocks-2.invariant c.block_close.ensures c.in-Some.is

pub returns-then-s-i : goal.returns-then-s-i
returns-then-s-i c = good.end c.blocks-2.invariant (omega (arith, c.if-s-i.true))

pub returns-in-None : goal.returns-in-None
returns-in-None c = good.stop c.blocks-2.invariant c.block_close.ensures c.in-None.is
