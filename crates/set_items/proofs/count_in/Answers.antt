use native.Mathlib.Omega.{arith}
use Rattle.set_items.proofs.Slots as laws
use mathlib.Core.Path.{◌≡◌}
use Prim.Native.Nat.{◌-◌}
use lib.ListN.{length, length-map}
use Rattle.set_table.specs.Types.{max_slots}
use borrow.Author.Rules.{rules}
use Rattle.set_items.proofs.count_in.Goals as goal

pub loop-p-init : goal.loop-p-init
loop-p-init c = let e : length c.args.set.order ≡ max_slots = c.well_formed.0.1.1.1.1.1.1.1.1.1.0.1.0.1 in laws.counts_start _ _ (laws.passed_start _ _ e c.least-slots.ensures)

pub offset_bounds-set-p : goal.offset_bounds-set-p
offset_bounds-set-p c = omega (arith, laws.counts_room c.loop-p.invariant)

pub bounds-set-p : goal.bounds-set-p
bounds-set-p c = let inv = c.loop-p.invariant in omega (arith, inv.at.within, inv.at.many)

pub overflow_add-n : goal.overflow_add-n
overflow_add-n c = let inv = c.loop-p.invariant in omega (arith, inv.few, laws.counts_room inv, c.slot_count-n.ensures)

pub loop-p-preserved : goal.loop-p-preserved
loop-p-preserved c = laws.counts_go c.loop-p.invariant (omega (arith, c.loop-p-test.true)) c.slot_count-n.ensures.0 c.slot_count-n.ensures.1

pub returns : goal.returns
returns c = laws.counts_end c.loop-p.invariant (omega (arith, c.loop-p-test.false))
