use mathlib.Core.Path.{sym, ◌∙◌}
use Prim.Native.Nat.{◌+◌, ◌-◌}
use native.Mathlib.Omega.{arith}
use borrow.Author.Rules.{rules}
use borrow.Author.Tests.{not-true, not-false}
use lib.ListN.{length, drop}
use Rattle.base_lists.specs.Lists.{run}
use Rattle.base_bytes.specs.Bytes.{is_plain}
use Rattle.base_lists.proofs.Runs as runs
use Rattle.read_once.proofs.plain_end.Goals as goal

pub loop-k-init : goal.loop-k-init
loop-k-init c = runs.start _ _ _

pub returns-then-not-is_value_byte : goal.returns-then-not-is_value_byte
returns-then-not-is_value_byte c = runs.stop c.loop-k.invariant (omega arith) (sym c.is_value_byte.ensures ∙ c.if-not-is_value_byte.true)

pub loop-k-preserved : goal.loop-k-preserved
loop-k-preserved c = runs.go c.loop-k.invariant (omega arith) (sym c.is_value_byte.ensures ∙ c.if-not-is_value_byte.false)

pub returns : goal.returns
returns c = runs.end c.loop-k.invariant (omega arith)
