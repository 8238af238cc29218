use Prim.Native.Nat.{◌-◌}
use native.Mathlib.Omega.{arith}
use lib.ListN.{length}
use borrow.Author.Rules.{rules}
use Rattle.set_columns.specs.Inner.{range_at}
use Rattle.set_columns.proofs.Laid as laws
use Rattle.set_columns.proofs.lists.widths_over.Given as goal

abbrev pub invariant-pieces : goal.invariant-pieces
invariant-pieces l = laws.Lays (range_at l.origin l.from) l.quoted l.s l.initial.out l.out l.i l.at

abbrev pub decreases-pieces : goal.decreases-pieces
decreases-pieces l = length l.s - l.at
