use Rattle.text_utf8.proofs.Pieces as laws
use Rattle.text_utf8.proofs.wides.Goals as goal

pub loop-k-init : goal.loop-k-init
loop-k-init c = laws.lows_start _ _

pub least-m-requires : goal.least-m-requires
least-m-requires c = Prim.tt

pub loop-k-preserved : goal.loop-k-preserved
loop-k-preserved c = laws.lows_go c.loop-k.invariant c.least-m.ensures

pub returns : goal.returns
returns c = laws.lows_end c.loop-k.invariant c.loop-k-test.false
