use native.Mathlib.Omega.{arith}
use Rattle.text_tabs.proofs.Laws.{capped_id}
use Rattle.run_scanners.specs.Scanners.{last_open_brace}
use Rattle.run_scanners.proofs.Laws as laws
use Rattle.run_scanners.proofs.seek_brace.Goals as goal

pub loop-b-init : goal.loop-b-init
loop-b-init c = laws.seeks_start _ _ (rw (capped_id c.args.start (omega arith)))

pub seek_step-k-requires : goal.seek_step-k-requires
seek_step-k-requires c = c.loop-b.invariant.small

pub loop-b-preserved : goal.loop-b-preserved
loop-b-preserved c = laws.seeks_go c.loop-b.invariant (omega arith) c.seek_step-k.ensures

pub returns : goal.returns
unfolding last_open_brace
returns c = laws.seeks_end c.loop-b.invariant (omega arith)
