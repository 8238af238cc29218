use native.Mathlib.Omega.{arith}
use Rattle.text_utf8.proofs.Pieces as laws
use Rattle.text_utf8.proofs.past_parts.Goals as goal

pub loop-k-init : goal.loop-k-init
loop-k-init c = laws.ascii_start _ _ (omega arith)

pub returns-then-s-k-lt16 : goal.returns-then-s-k-lt16
returns-then-s-k-lt16 c = c.loop-k.invariant

pub loop-k-preserved : goal.loop-k-preserved
loop-k-preserved c = laws.ascii_then c.loop-k.invariant (laws.ascii_of c.wides.ensures c.if-wides-ne0.false (omega arith) (omega arith) (omega arith))

pub returns : goal.returns
returns c = laws.ascii_to c.loop-k.invariant (omega arith)

pub returns-else-wides-ne0 : goal.returns-else-wides-ne0
returns-else-wides-ne0 c = laws.ascii_to (laws.ascii_then c.loop-k.invariant (laws.ascii_of c.wides.ensures c.if-wides-ne0.false (omega arith) (omega arith) (omega arith))) (omega arith)
