use mathlib.Core.Path.{sym, ◌∙◌}
use Prim.Native.Nat.{◌<◌}
use native.Mathlib.Omega.{arith}
use lib.ListN.{take, length-take}
use lib.Seq.{get_or-take}
use Rattle.set_table.specs.Types.{zero_slot}
use Rattle.set_keyed.specs.Keyed.{key_in}
use Rattle.set_keyed.proofs.Slots as laws
use Rattle.set_keyed.proofs.found_in.Goals as goal

pub loop-p-init : goal.loop-p-init
loop-p-init c = laws.seeks_start _ _ _ c.well_formed.1.1.1.1.1.0.1.0.1

pub returns-in-Some : goal.returns-in-Some
unfolding key_in
returns-in-Some c =
    let m = c.min.result in
    let h : c.loop-p.p-index < m = omega (arith, length-take m c.args.order) in
    let e = rw (get_or-take m c.args.order c.loop-p.p-index zero_slot h) at (sym c.slot_found.ensures ∙ c.in-Some.is) in
    rw laws.first_map (laws.seeks_stop c.loop-p.invariant zero_slot (omega (arith, h, c.min.ensures)) (omega (arith, h, c.min.ensures)) e)

pub loop-p-preserved : goal.loop-p-preserved
loop-p-preserved c =
    let m = c.min.result in
    let h : c.loop-p.p-index < m = omega (arith, length-take m c.args.order) in
    let e = rw (get_or-take m c.args.order c.loop-p.p-index zero_slot h) at (sym c.in_default.is ∙ c.slot_found.ensures) in
    laws.seeks_go c.loop-p.invariant zero_slot (omega (arith, h, c.min.ensures)) (omega (arith, h, c.min.ensures)) e

pub returns : goal.returns
unfolding key_in
returns c =
    rw laws.first_map (laws.seeks_all c.loop-p.invariant (omega (arith, c.min.ensures, length-take c.min.result c.args.order, length-take c.args.n c.args.order, c.loop-p.invariant.long)))
