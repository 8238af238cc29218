use mathlib.Core.Path.{sym, ◌∙◌}
use Prim.Native.Nat.{◌+◌, ◌-◌}
use native.Mathlib.Omega.{arith}
use borrow.Author.Rules.{rules}
use borrow.Author.Tests.{not-true, not-false}
use lib.ListN.{length, drop}
use Rattle.base_lists.specs.Lists.{run}
use Rattle.base_bytes.specs.Bytes.{is_space}
use Rattle.base_lists.proofs.Runs as runs
use Rattle.read_once.proofs.space_end.Given as goal

abbrev pub invariant-loop-i : goal.invariant-loop-i
invariant-loop-i l = runs.RunsFrom is_space l.s (l.at + run is_space (drop l.at l.s)) l.i

abbrev pub decreases-loop-i : goal.decreases-loop-i
decreases-loop-i l = length l.s - l.i
