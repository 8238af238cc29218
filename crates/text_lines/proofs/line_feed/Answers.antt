use mathlib.Core.Path.{◌∙◌}
use native.Mathlib.Omega.{arith}
use Rattle.text_lines.proofs.Lines as laws
use Rattle.text_lines.proofs.line_feed.Goals as goal

-- `line_feed` stops at the first LF behind the strides that have none, or where no byte is left. Assumes nothing.

pub loop-i-init : goal.loop-i-init
loop-i-init c = record { rest = c.past_strides-from.ensures }

pub returns-then-text-i-eq10 : goal.returns-then-text-i-eq10
returns-then-text-i-eq10 c = laws.feeds_stop c.loop-i.invariant (omega arith) c.if-text-i-eq10.true

pub loop-i-preserved : goal.loop-i-preserved
loop-i-preserved c = laws.feeds_go c.loop-i.invariant (omega arith) c.if-text-i-eq10.false

pub returns : goal.returns
returns c = c.max.ensures ∙ laws.feeds_max (record { rest = c.past_strides-from.ensures }) c.loop-i.invariant (omega arith) c.loop-i.auto.i-end
