use native.Mathlib.Omega.{arith}
use Prim.Native.Nat.{◌-◌}
use borrow.Author.Rules.{rules}
use borrow.Author.Tests.{not-true, not-false}
use lib.ListN.{length-map}
use Rattle.set_table.specs.Types.{two}
use Rattle.set_merge.proofs.Rest as rest
use Rattle.set_merge.proofs.merge_rows.Given as goal

abbrev pub invariant-loop-i : goal.invariant-loop-i
invariant-loop-i l = rest.Merges (two l.first l.second) l.initial.set l.b l.set l.i
