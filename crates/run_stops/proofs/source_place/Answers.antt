use native.Mathlib.Omega.{arith}
use Rattle.run_stops.proofs.Laws as laws
use Rattle.run_stops.proofs.source_place.Goals as goal

pub loop-row-init : goal.loop-row-init
loop-row-init c = laws.sources_start _ _ _ _

pub overflow_sub-size : goal.overflow_sub-size
overflow_sub-size c = laws.sources_order c.loop-row.invariant (omega arith) c.trimmed_line-f.ensures

pub returns-then-rest-size : goal.returns-then-rest-size
returns-then-rest-size c = laws.sources_here c.loop-row.invariant (omega arith) c.trimmed_line-f.ensures c.if-rest-size.true

pub loop-row-preserved : goal.loop-row-preserved
loop-row-preserved c = laws.sources_on c.loop-row.invariant (omega arith) c.trimmed_line-f.ensures c.if-rest-size.false

pub returns : goal.returns
returns c = laws.sources_end c.loop-row.invariant (omega arith)
