use borrow.Author.Rules.{rules}
use native.Mathlib.Omega.{arith}
use Prim.Native.Nat.{◌-◌}
use Rattle.set_table.specs.Types.{two, max_classes}
use Rattle.set_writer.proofs.Walks as walks
use Rattle.set_writer.proofs.class_items.Given as goal

abbrev pub invariant-loop-value : goal.invariant-loop-value
invariant-loop-value l = walks.Classes (two l.first l.second) l.really l.initial.out l.at l.n l.fn.classes l.out l.k l.value-index
