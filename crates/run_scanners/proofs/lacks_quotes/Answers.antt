use mathlib.Core.Path.{refl}
use native.Mathlib.Omega.{arith}
use Rattle.run_scanners.proofs.Quick as laws
use Rattle.run_scanners.proofs.lacks_quotes.Goals as goal

pub loop-b-init : goal.loop-b-init
loop-b-init c = record { rest = refl }

pub loop-b-preserved : goal.loop-b-preserved
loop-b-preserved c = laws.meets_go c.loop-b.invariant (omega arith) c.or_quote-met.ensures

pub returns : goal.returns
returns c = laws.meets_end c.loop-b.invariant (omega arith)
