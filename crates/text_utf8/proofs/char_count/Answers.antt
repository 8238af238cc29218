use native.Mathlib.Omega.{arith}
use Rattle.text_utf8.proofs.Laws as laws
use Rattle.text_utf8.proofs.char_count.Goals as goal

pub loop-b-preserved : goal.loop-b-preserved
loop-b-preserved c = laws.counts_go c.loop-b.invariant (omega arith) c.counted-n.ensures

pub returns : goal.returns
returns c = laws.counts_end c.loop-b.invariant (omega arith)
