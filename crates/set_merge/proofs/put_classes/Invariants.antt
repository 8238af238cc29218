use borrow.Author.Rules.{rules}
use native.Mathlib.Omega.{arith}
use mathlib.Core.Path.{refl}
use mathlib.Core.List.{[]}
use Prim.Native.Nat.{◌-◌}
use Rattle.set_table.specs.Types.{one}
use Rattle.set_table.proofs.Holding as holding
use Rattle.set_merge.proofs.Tables as tables
use Rattle.set_merge.proofs.put_classes.Given as goal

abbrev pub invariant-loop-class : goal.invariant-loop-class
invariant-loop-class l = tables.Joins l.initial.set l.fn.from l.m l.set l.class-index
