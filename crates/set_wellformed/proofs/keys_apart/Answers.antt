use native.Mathlib.Omega.{arith}
use Rattle.set_table.specs.Types.{two}
use Rattle.set_wellformed.proofs.Decide as laws
use Rattle.set_wellformed.proofs.keys_apart.Goals as goal

pub loop-k-init : goal.loop-k-init
loop-k-init c = laws.apart_start (two _ _) _ _ (omega (arith, c.requires, c.well_formed.1.1.0.1))

pub returns-then-find_key-k : goal.returns-then-find_key-k
returns-then-find_key-k c = laws.apart_stop c.loop-k.invariant (omega arith) (omega (arith, c.find_key.ensures, c.if-find_key-k.true))

pub loop-k-preserved : goal.loop-k-preserved
loop-k-preserved c = laws.apart_go c.loop-k.invariant (omega arith) (omega (arith, c.find_key.ensures, c.if-find_key-k.false))

pub returns : goal.returns
returns c = laws.apart_end c.loop-k.invariant (omega arith)
