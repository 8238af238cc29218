use mathlib.Core.Path.{sym, ◌∙◌}
use native.Mathlib.Omega.{arith}
use Rattle.base_lists.proofs.Runs as runs
use Rattle.block_tokens.proofs.Runs.{end_max}
use Rattle.block_tokens.proofs.blank_end.Goals as goal

pub loop-a-init : goal.loop-a-init
loop-a-init c = runs.start _ _ _

pub returns-then-not-is_blank : goal.returns-then-not-is_blank
returns-then-not-is_blank c = runs.stop c.loop-a.invariant (omega arith) (sym c.is_blank.ensures ∙ c.if-not-is_blank.true)

pub loop-a-preserved : goal.loop-a-preserved
loop-a-preserved c = runs.go c.loop-a.invariant (omega arith) (sym c.is_blank.ensures ∙ c.if-not-is_blank.false)

pub returns : goal.returns
returns c = c.max.ensures ∙ end_max c.loop-a.invariant (omega arith) c.loop-a.auto.a-end
