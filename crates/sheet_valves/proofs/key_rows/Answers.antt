use mathlib.Core.Path.{◌≡◌}
use Prim.Native.Nat.{ℕ, ◌<◌}
use lib.ListN.{length, take, length-take}
use lib.Seq.{get_or-take}
use native.Mathlib.Omega.{arith}
use Rattle.set_table.specs.Types.{max_keys, max_slots, zero_slot}
use Rattle.sheet_valves.proofs.Keys as laws
use Rattle.sheet_valves.proofs.key_rows.Goals as goal
use Rattle.sheet_valves.proofs.key_rows.Goals.{in-0, in-1, in-2, in_default}

pub loop-p-init : goal.loop-p-init
loop-p-init c =
    let k : length c.args.set.keys ≡ max_keys = c.well_formed.1.1.0.1.1.1.1.1.1.1.1.0.1.0.1 in
    let o : length c.args.set.order ≡ max_slots = c.well_formed.1.1.0.1.1.1.1.1.1.1.1.1.0.1.0.1 in
    laws.walks_start _ _ k o

pub loop-p-preserved-then-i-ge-KEYS : goal.loop-p-preserved-then-i-ge-KEYS
loop-p-preserved-then-i-ge-KEYS c =
    let m = c.min-n.result in
    let k : c.loop-p.p-index < m = omega (arith, length-take m c.args.set.order) in
    let e = rw (get_or-take m c.args.set.order c.loop-p.p-index zero_slot k) at c.row_no-i.ensures in
    laws.walks_pass c.loop-p.invariant (omega (arith, k, c.min-n.ensures)) (omega (arith, k, c.min-n.ensures)) e (omega arith)

pub loop-p-preserved : goal.loop-p-preserved
loop-p-preserved c =
    let m = c.min-n.result in
    let k : c.loop-p.p-index < m = omega (arith, length-take m c.args.set.order) in
    let e = rw (get_or-take m c.args.set.order c.loop-p.p-index zero_slot k) at c.row_no-i.ensures in
    let h : c.loop-p.p-index < max_slots = omega (arith, k, c.min-n.ensures) in
    let n : c.loop-p.p-index < c.args.set.norder = omega (arith, k, c.min-n.ensures) in
    elim c.match-key_no.branch [
      | in-0 w ↦ rw (w.variant-is, w.wheel-is, w.valve-is) (laws.walks_variant c.loop-p.invariant h n e c.if-i-ge-KEYS.false c.key_no.ensures w.in-0.is w.earlier-variant.ensures)
      | in-1 w ↦ rw (w.variant-is, w.wheel-is, w.valve-is) (laws.walks_wheel c.loop-p.invariant h n e c.if-i-ge-KEYS.false c.key_no.ensures w.in-1.is w.earlier-wheel.ensures)
      | in-2 w ↦ rw (w.variant-is, w.wheel-is, w.valve-is) (laws.walks_valve c.loop-p.invariant h n e c.if-i-ge-KEYS.false c.key_no.ensures w.in-2.is w.earlier-valve.ensures)
      | in_default w ↦
          let o = w.in_default.in_default-own.rest in
          rw (w.variant-is, w.wheel-is, w.valve-is) (laws.walks_other c.loop-p.invariant h n e c.if-i-ge-KEYS.false c.key_no.ensures o.0.0.1 o.0.1 o.1)
    ]

pub returns : goal.returns
returns c = laws.walks_end c.loop-p.invariant (omega (arith, c.min-n.ensures, length-take c.min-n.result c.args.set.order, length-take c.args.set.norder c.args.set.order, c.loop-p.invariant.variant.long))
