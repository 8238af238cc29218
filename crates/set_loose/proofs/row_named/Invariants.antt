use mathlib.Core.Path.{sym, ◌∙◌}
use Prim.Native.Nat.{◌-◌}
use native.Mathlib.Omega.{arith}
use borrow.Author.Rules.{rules}
use Rattle.set_table.specs.Types.{two, max_keys}
use Rattle.set_loose.proofs.Named as laws
use Rattle.set_loose.proofs.row_named.Given as goal

abbrev pub invariant-loop-k : goal.invariant-loop-k
invariant-loop-k l = laws.Finds (two l.first l.second) l.name l.n l.row-items l.k
