use native.Mathlib.Omega.{arith}
use Rattle.text_utf8.proofs.Pieces as laws
use Prim.Native.Nat.{◌-◌}
use lib.ListN.{length}
use Rattle.text_utf8.specs.Inner.{Ascii}
use Rattle.text_utf8.proofs.past_blocks.Goals as goal

pub loop-k-init : goal.loop-k-init
loop-k-init c = laws.ascii_start _ _ (omega arith)

pub returns-then-wides-ne0 : goal.returns-then-wides-ne0
returns-then-wides-ne0 c = c.loop-k.invariant

pub loop-k-preserved : goal.loop-k-preserved
loop-k-preserved c = laws.ascii_then c.loop-k.invariant (laws.ascii_of c.wides.ensures c.if-wides-ne0.false (omega arith) (omega arith) (omega arith))

pub returns : goal.returns
returns c = c.loop-k.invariant
