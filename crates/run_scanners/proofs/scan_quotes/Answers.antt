use mathlib.Core.Path.{refl}
use native.Mathlib.Omega.{arith}
use Rattle.run_scanners.specs.Scanners.{open_quote_at_end}
use Rattle.run_scanners.proofs.Laws as laws
use Rattle.run_scanners.proofs.scan_quotes.Goals as goal

pub loop-b-init : goal.loop-b-init
unfolding open_quote_at_end
loop-b-init c = record { rest = refl }

pub loop-b-preserved : goal.loop-b-preserved
loop-b-preserved c = laws.opens_go c.loop-b.invariant (omega arith) c.pass-st.ensures.value

pub returns : goal.returns
returns c = laws.opens_end c.loop-b.invariant (omega arith)
