use native.Mathlib.Omega.{arith}
use Rattle.set_items.proofs.Slots as laws
use mathlib.Core.Path.{◌≡◌}
use Prim.Native.Nat.{◌-◌}
use lib.ListN.{length, length-map}
use Rattle.set_table.specs.Types.{max_slots}
use borrow.Author.Rules.{rules}
use Rattle.set_items.proofs.item_in.Goals as goal

pub loop-p-init : goal.loop-p-init
loop-p-init c = let e : length c.args.set.order ≡ max_slots = c.well_formed.0.1.1.1.1.1.1.1.1.1.0.1.0.1 in laws.seeks_start _ _ _ (laws.passed_start _ _ e c.least-slots.ensures)

pub offset_bounds-set-p : goal.offset_bounds-set-p
offset_bounds-set-p c = let inv = c.loop-p.invariant in omega (arith, inv.at.within, inv.at.many)

pub bounds-set-p : goal.bounds-set-p
bounds-set-p c = let inv = c.loop-p.invariant in omega (arith, inv.at.within, inv.at.many)

pub returns-then-left-many : goal.returns-then-left-many
returns-then-left-many c = laws.seeks_stop c.loop-p.invariant (omega (arith, c.loop-p-test.true)) c.slot_count-many.ensures.0 (omega (arith, c.if-left-many.true)) c.slot_item.ensures

pub loop-p-preserved : goal.loop-p-preserved
loop-p-preserved c = laws.seeks_go c.loop-p.invariant (omega (arith, c.loop-p-test.true)) c.slot_count-many.ensures.0 (omega (arith, c.if-left-many.false))

pub returns : goal.returns
returns c = laws.seeks_end c.loop-p.invariant (omega (arith, c.loop-p-test.false))
