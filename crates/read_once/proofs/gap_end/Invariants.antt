use mathlib.Core.Path.{sym, ◌∙◌}
use Prim.Native.Nat.{◌+◌, ◌-◌}
use native.Mathlib.Omega.{arith}
use borrow.Author.Rules.{rules}
use borrow.Author.Tests.{not-true, not-false}
use lib.ListN.{length, drop}
use Rattle.base_lists.specs.Lists.{run}
use Rattle.read_once.specs.Inner.{is_gap}
use Rattle.base_lists.proofs.Runs as runs
use Rattle.read_once.proofs.gap_end.Given as goal

abbrev pub invariant-loop-a : goal.invariant-loop-a
invariant-loop-a l = runs.RunsFrom (is_gap l.mode) l.s (l.i + run (is_gap l.mode) (drop l.i l.s)) l.a

abbrev pub decreases-loop-a : goal.decreases-loop-a
decreases-loop-a l = length l.s - l.a
