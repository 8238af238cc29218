use native.Mathlib.Omega.{arith}
use Prim.Native.Nat.{◌<◌}
use lib.ListN.{length-take}
use lib.Seq.{get_or-take}
use Rattle.set_table.specs.Types.{zero_slot}
use Rattle.set_loose.proofs.Walk as laws
use Rattle.set_loose.proofs.slots_without.Goals as goal
use Rattle.set_loose.proofs.slots_without.Goals.{in-Some, in_default}

pub loop-p-init : goal.loop-p-init
loop-p-init c = laws.keeps-start _ _ _

pub offset_bounds-out-j : goal.offset_bounds-out-j
offset_bounds-out-j c = omega (arith, c.loop-p.invariant.few, c.loop-p-test.true, length-take c.args.n c.args.order, c.requires)

pub bounds-out-j : goal.bounds-out-j
bounds-out-j c = omega (arith, c.loop-p.invariant.few, c.loop-p-test.true, length-take c.args.n c.args.order, c.requires)

pub overflow_add-j : goal.overflow_add-j
overflow_add-j c = omega (arith, c.loop-p.invariant.few, c.loop-p-test.true, length-take c.args.n c.args.order, c.requires)

pub loop-p-preserved : goal.loop-p-preserved
loop-p-preserved c =
    let inv = c.loop-p.invariant in
    let h : c.loop-p.p-index < c.args.n = omega (arith, c.loop-p-test.true, length-take c.args.n c.args.order) in
    let e = rw (get_or-take c.args.n c.args.order c.loop-p.p-index zero_slot h) at c.slot_left.ensures in
    elim c.match-slot_left.branch [ in-Some w ↦ rw (w.out-is, w.j-is) (laws.keeps_stays inv c.well_formed.0.1.0.1 c.requires h e w.in-Some.is) | in_default w ↦ rw (w.out-is, w.j-is) (laws.keeps-gone inv c.well_formed.0.1.0.1 c.requires h e w.in_default.is) ]

pub returns : goal.returns
returns c = laws.keeps_end c.loop-p.invariant c.well_formed.0.1.0.1 c.requires (omega (arith, c.loop-p-test.false, length-take c.args.n c.args.order, c.requires, c.well_formed.0.1.0.1))
