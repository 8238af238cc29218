use native.Mathlib.Omega.{arith}
use Rattle.set_items.proofs.Slots as laws
use mathlib.Core.Path.{◌≡◌}
use Prim.Native.Nat.{◌-◌}
use lib.ListN.{length, length-map}
use Rattle.set_table.specs.Types.{max_slots}
use borrow.Author.Rules.{rules}
use Rattle.set_items.proofs.item_in.Given as goal

abbrev pub invariant-loop-p : goal.invariant-loop-p
invariant-loop-p l = laws.Seeks l.set l.slots l.n l.left l.p
