use mathlib.Core.Path.{sym, ◌∙◌}
use Prim.Native.Nat.{◌+◌, ◌-◌}
use native.Mathlib.Omega.{arith}
use borrow.Author.Rules.{rules}
use borrow.Author.Tests.{not-true, not-false}
use lib.ListN.{length, drop}
use Rattle.base_lists.specs.Lists.{run}
use Rattle.read_once.specs.Inner.{is_gap}
use Rattle.base_lists.proofs.Runs as runs
use Rattle.read_once.proofs.gap_end.Goals as goal

pub loop-a-init : goal.loop-a-init
loop-a-init c = runs.start _ _ _

pub returns-then-not-is_gap : goal.returns-then-not-is_gap
returns-then-not-is_gap c = runs.stop c.loop-a.invariant (omega arith) (sym c.is_gap.ensures ∙ c.if-not-is_gap.true)

pub loop-a-preserved : goal.loop-a-preserved
loop-a-preserved c = runs.go c.loop-a.invariant (omega arith) (sym c.is_gap.ensures ∙ c.if-not-is_gap.false)

pub returns : goal.returns
returns c = runs.end c.loop-a.invariant (omega arith)
