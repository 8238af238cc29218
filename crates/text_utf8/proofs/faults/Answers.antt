use Rattle.text_utf8.proofs.Pieces as laws
use native.Mathlib.Omega.{arith}
use Rattle.text_utf8.proofs.faults.Goals as goal

pub loop-k-init : goal.loop-k-init
loop-k-init c = (omega arith, laws.judged-start _ _)

pub wrong-bad-requires : goal.wrong-bad-requires
wrong-bad-requires c = Prim.tt

pub loop-k-preserved : goal.loop-k-preserved
loop-k-preserved c = (omega arith, laws.judged_go c.loop-k.invariant.1 (omega arith) (laws.far _ _ (omega arith) c.wrong-bad.ensures))

pub returns : goal.returns
returns c = laws.judged_end c.loop-k.invariant.1 c.loop-k-test.false
