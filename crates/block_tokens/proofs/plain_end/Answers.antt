use mathlib.Core.Path.{sym, ◌∙◌}
use native.Mathlib.Omega.{arith}
use Rattle.base_lists.proofs.Runs as runs
use Rattle.block_tokens.proofs.Runs.{end_max}
use Rattle.block_tokens.proofs.plain_end.Goals as goal

pub loop-k-init : goal.loop-k-init
loop-k-init c = runs.start _ _ _

pub returns-then-not-is_value_byte : goal.returns-then-not-is_value_byte
returns-then-not-is_value_byte c = runs.stop c.loop-k.invariant (omega arith) (sym c.is_value_byte.ensures ∙ c.if-not-is_value_byte.true)

pub loop-k-preserved : goal.loop-k-preserved
loop-k-preserved c = runs.go c.loop-k.invariant (omega arith) (sym c.is_value_byte.ensures ∙ c.if-not-is_value_byte.false)

pub returns : goal.returns
returns c = c.max.ensures ∙ end_max c.loop-k.invariant (omega arith) c.loop-k.auto.k-end
