use Prim.Native.Nat.{◌-◌}
use native.Mathlib.Omega.{arith}
use Rattle.base_refusals.proofs.Said.{said}
use Rattle.sheet_index.specs.Finding.{look_paper}
use Rattle.sheet_index.proofs.Rows as laws
use borrow.Author.Rules.{rules}
use Rattle.sheet_index.proofs.find_row.Given as goal

abbrev pub invariant-rows : goal.invariant-rows
invariant-rows l = laws.Seeks l.index l.table l.id l.n l.k l.i

abbrev pub decreases-rows : goal.decreases-rows
decreases-rows l = l.n - l.k
