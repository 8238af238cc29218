use native.Mathlib.Omega.{arith}
use Rattle.set_items.proofs.Slots as laws
use mathlib.Core.Path.{◌≡◌, sym, ◌∙◌}
use Prim.Native.Nat.{◌-◌}
use lib.ListN.{length, length-map}
use Rattle.set_table.specs.Types.{two, max_slots}
use Rattle.set_items.specs.Inner.{slot_named}
use borrow.Author.Rules.{rules}
use Rattle.set_items.proofs.slot_of.Given as goal

abbrev pub invariant-loop-p : goal.invariant-loop-p
invariant-loop-p l = laws.Tests (slot_named (two l.first l.second) l.set l.name) l.set l.slots l.p
