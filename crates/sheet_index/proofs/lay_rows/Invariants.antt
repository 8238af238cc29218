use Prim.Native.Nat.{◌-◌}
use native.Mathlib.Omega.{arith}
use lib.ListN.{length}
use Rattle.sheet_index.proofs.Rows as laws
use borrow.Author.Rules.{rules}
use Rattle.sheet_index.proofs.lay_rows.Given as goal

abbrev pub invariant-rows : goal.invariant-rows
invariant-rows l = laws.Fills l.index l.initial.table l.table l.k l.at

abbrev pub decreases-rows : goal.decreases-rows
decreases-rows l = length l.index - l.at
