use Rattle.run_stops.proofs.Laws as laws
use native.Mathlib.Omega.{arith}
use mathlib.Core.Path.{refl}
use Rattle.base_refusals.proofs.Said.{said}
use Rattle.block_grammar.specs.Close.{close_paper}
use Rattle.run_stops.specs.Stops.{quote_left}
use Rattle.run_stops.proofs.quote_left.Goals as goal

pub loop-i-init : goal.loop-i-init
unfolding quote_left
loop-i-init c = record { rest = refl }

pub loop-i-preserved : goal.loop-i-preserved
loop-i-preserved c = laws.quotes_go c.loop-i.invariant (omega arith) c.kept-at.ensures c.pass-st.ensures.value

pub returns-in-None : goal.returns-in-None
returns-in-None c = said close_paper refl (laws.quotes_none c.loop-i.invariant (omega arith) c.in-None.is)

pub returns-in-Some : goal.returns-in-Some
returns-in-Some c = said close_paper refl (laws.quotes_some c.loop-i.invariant (omega arith) (c.in-Some.is))
