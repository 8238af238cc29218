use native.Mathlib.Omega.{arith}
use Rattle.set_items.proofs.Slots as laws
use mathlib.Core.Path.{◌≡◌, sym, ◌∙◌}
use Prim.Native.Nat.{◌-◌}
use lib.ListN.{length, length-map}
use Rattle.set_table.specs.Types.{two, max_slots}
use Rattle.set_items.specs.Inner.{slot_named}
use borrow.Author.Rules.{rules}
use Rattle.set_items.proofs.slot_of.Goals as goal

pub loop-p-init : goal.loop-p-init
loop-p-init c = let e : length c.args.set.order ≡ max_slots = c.well_formed.1.1.0.1.1.1.1.1.1.1.1.1.0.1.0.1 in laws.tests_start _ _ _ (laws.passed_start _ _ e c.least-slots.ensures)

pub offset_bounds-set-p : goal.offset_bounds-set-p
offset_bounds-set-p c = let inv = c.loop-p.invariant in omega (arith, inv.at.within, inv.at.many)

pub bounds-set-p : goal.bounds-set-p
bounds-set-p c = let inv = c.loop-p.invariant in omega (arith, inv.at.within, inv.at.many)

pub returns-then-slot_named : goal.returns-then-slot_named
returns-then-slot_named c = laws.tests_stop c.loop-p.invariant (omega (arith, c.loop-p-test.true)) (sym c.slot_named.ensures ∙ c.if-slot_named.true)

pub loop-p-preserved : goal.loop-p-preserved
loop-p-preserved c = laws.tests_go c.loop-p.invariant (omega (arith, c.loop-p-test.true)) (sym c.slot_named.ensures ∙ c.if-slot_named.false)

pub returns : goal.returns
returns c = laws.tests_end c.loop-p.invariant (omega (arith, c.loop-p-test.false))
