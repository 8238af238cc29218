use mathlib.Core.Path.{◌≡◌, refl}
use Prim.Native.Nat.{◌-◌}
use native.Mathlib.Omega.{arith}
use borrow.Author.Rules.{rules}
use Rattle.set_table.specs.Types.{name_bytes, two, max_keys}
use Rattle.set_table.specs.declared.Name.{Name}
use Rattle.set_table.proofs.Keys as laws
use Rattle.set_table.proofs.find_key.Given as goal

-- whatever name has the bytes
abbrev pub invariant-loop-k : goal.invariant-loop-k
invariant-loop-k l = (name : Name) → l.bytes ≡ name_bytes (two l.first l.second) name → laws.Finds (two l.first l.second) name l.n l.row-items l.k
