use mathlib.Core.Path.{◌∙◌}
use native.Mathlib.Omega.{arith}
use Rattle.text_langtags.proofs.Steps as steps
use Rattle.text_langtags.proofs.is_well_formed_tag.Goals as goal

pub loop-b-init : goal.loop-b-init
loop-b-init c = rw c.start_tag-w.ensures (steps.steps_start c.args.s.now)

pub loop-b-preserved : goal.loop-b-preserved
loop-b-preserved c = rw c.step_tag-w.ensures (steps.steps_go c.loop-b.invariant (omega arith))

pub returns : goal.returns
returns c = c.accepts_tag.ensures ∙ steps.steps_end c.loop-b.invariant (omega arith)
