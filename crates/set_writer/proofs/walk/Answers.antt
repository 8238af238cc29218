use mathlib.Core.Path.{◌≡◌}
use lib.ListN.{length, get_or}
use native.Mathlib.Omega.{arith}
use Prim.Native.Nat.{◌+◌, ◌<◌, min}
use Rattle.set_table.specs.Types.{two, max_slots, max_keys, zero_slot}
use Rattle.set_writer.specs.Inner.{key_pairs}
use Rattle.set_writer.proofs.Walks as walks
use Rattle.set_writer.proofs.Fills as fills
use Rattle.set_writer.proofs.walk.Goals as goal
use Rattle.set_writer.proofs.walk.Goals.{in-Id, in-Class, in-Key, then-k-keys, else-k-keys}

pub loop-p-init : goal.loop-p-init
loop-p-init c =
    let e : length c.args.set.order ≡ max_slots = c.well_formed.1.1.0.1.1.1.1.1.1.1.1.1.0.1.0.1 in
    (walks.walks_start _ _ _ _ _ e c.requires.set_len_bound, omega arith)

pub id_item-n-requires : goal.id_item-n-requires
id_item-n-requires c =
    let t = two c.args.first.now c.args.second.now in
    record { at_le_max_text = omega (arith, c.loop-p.invariant.1, c.requires.cap_le_max_text); value_in_bounds = walks.walks_room c.loop-p.invariant.0 (omega (arith, c.least-slots.ensures, c.loop-p-test.true)) (walks.id_pairs_lem t c.args.set c.in-Id.is) }

pub class_items-n-requires : goal.class_items-n-requires
class_items-n-requires c =
    let t = two c.args.first.now c.args.second.now in
    record { at_le_max_text = omega (arith, c.loop-p.invariant.1, c.requires.cap_le_max_text); classes_in_bounds = walks.walks_room c.loop-p.invariant.0 (omega (arith, c.least-slots.ensures, c.loop-p-test.true)) (walks.class_pairs_lem t c.args.set c.in-Class.is) }

pub key_item-n-requires : goal.key_item-n-requires
key_item-n-requires c =
    let e : length c.args.set.keys ≡ max_keys = c.well_formed.1.1.0.1.1.1.1.1.1.1.1.0.1.0.1 in
    let t = two c.args.first.now c.args.second.now in
    let inv = c.loop-p.invariant.0 in
    let h : c.loop-p.p < min c.args.set.norder max_slots = omega (arith, c.least-slots.ensures, c.loop-p-test.true) in
    let pairs : key_pairs t c.if-k-keys.row ≡ walks.slot_pairs t c.args.set (get_or c.args.set.order c.loop-p.p zero_slot).slot = elim c.if-k-keys.branch [ then-k-keys v ↦ rw v.row-is (walks.key_pairs_lem t c.args.set _ c.in-Key.is (omega (arith, c.least-keys.ensures, v.if-k-keys.true))) | else-k-keys v ↦ rw v.row-is (walks.no_pairs t c.args.set v.no_row-row.ensures _ c.in-Key.is e (omega (arith, c.least-keys.ensures, v.if-k-keys.false))) ] in
    record { at_le_max_text = omega (arith, c.loop-p.invariant.1, c.requires.cap_le_max_text); row_in_bounds = walks.walks_room inv h pairs }

pub returns-then-cap-n : goal.returns-then-cap-n
returns-then-cap-n c =
    let e : length c.args.set.keys ≡ max_keys = c.well_formed.1.1.0.1.1.1.1.1.1.1.1.0.1.0.1 in
    let t = two c.args.first.now c.args.second.now in
    let inv = c.loop-p.invariant.0 in
    let h : c.loop-p.p < min c.args.set.norder max_slots = omega (arith, c.least-slots.ensures, c.loop-p-test.true) in
    let next : walks.Walks t c.args.set c.args.really c.args.out.now c.args.cap c.match-set-p.out c.match-set-p.n (c.loop-p.p + 1) =
    elim c.match-set-p.branch [
      | in-Id w ↦ rw (w.out-is, w.n-is) (walks.walks_go inv h (walks.id_pairs_lem t c.args.set w.in-Id.is) w.id_item-n.ensures.value w.id_item-n.ensures.out_after)
      | in-Class w ↦ rw (w.out-is, w.n-is) (walks.walks_go inv h (walks.class_pairs_lem t c.args.set w.in-Class.is) w.class_items-n.ensures.value w.class_items-n.ensures.out_after)
      | in-Key w ↦
          let pairs : key_pairs t w.if-k-keys.row ≡ walks.slot_pairs t c.args.set (get_or c.args.set.order c.loop-p.p zero_slot).slot = elim w.if-k-keys.branch [ then-k-keys v ↦ rw v.row-is (walks.key_pairs_lem t c.args.set _ w.in-Key.is (omega (arith, c.least-keys.ensures, v.if-k-keys.true))) | else-k-keys v ↦ rw v.row-is (walks.no_pairs t c.args.set v.no_row-row.ensures _ w.in-Key.is e (omega (arith, c.least-keys.ensures, v.if-k-keys.false))) ] in
          rw (w.out-is, w.n-is) (walks.walks_go inv h pairs w.key_item-n.ensures.value w.key_item-n.ensures.out_after)
    ] in
    fills.both (walks.walks_over next (omega (arith, c.if-cap-n.true)))

pub loop-p-preserved : goal.loop-p-preserved
loop-p-preserved c =
    let e : length c.args.set.keys ≡ max_keys = c.well_formed.1.1.0.1.1.1.1.1.1.1.1.0.1.0.1 in
    let t = two c.args.first.now c.args.second.now in
    let inv = c.loop-p.invariant.0 in
    let h : c.loop-p.p < min c.args.set.norder max_slots = omega (arith, c.least-slots.ensures, c.loop-p-test.true) in
    let next : walks.Walks t c.args.set c.args.really c.args.out.now c.args.cap c.match-set-p.out c.match-set-p.n (c.loop-p.p + 1) =
    elim c.match-set-p.branch [
      | in-Id w ↦ rw (w.out-is, w.n-is) (walks.walks_go inv h (walks.id_pairs_lem t c.args.set w.in-Id.is) w.id_item-n.ensures.value w.id_item-n.ensures.out_after)
      | in-Class w ↦ rw (w.out-is, w.n-is) (walks.walks_go inv h (walks.class_pairs_lem t c.args.set w.in-Class.is) w.class_items-n.ensures.value w.class_items-n.ensures.out_after)
      | in-Key w ↦
          let pairs : key_pairs t w.if-k-keys.row ≡ walks.slot_pairs t c.args.set (get_or c.args.set.order c.loop-p.p zero_slot).slot = elim w.if-k-keys.branch [ then-k-keys v ↦ rw v.row-is (walks.key_pairs_lem t c.args.set _ w.in-Key.is (omega (arith, c.least-keys.ensures, v.if-k-keys.true))) | else-k-keys v ↦ rw v.row-is (walks.no_pairs t c.args.set v.no_row-row.ensures _ w.in-Key.is e (omega (arith, c.least-keys.ensures, v.if-k-keys.false))) ] in
          rw (w.out-is, w.n-is) (walks.walks_go inv h pairs w.key_item-n.ensures.value w.key_item-n.ensures.out_after)
    ] in
    (next, omega (arith, c.if-cap-n.false))

pub close-requires : goal.close-requires
close-requires c = record { at_le_max_text = omega (arith, c.loop-p.invariant.1, c.requires.cap_le_max_text); at_in_bounds = walks.close_room c.loop-p.invariant.0 (omega (arith, c.least-slots.ensures, c.loop-p-test.false)) }

pub returns : goal.returns
returns c =
    fills.both (walks.walks_end c.loop-p.invariant.0 (omega (arith, c.least-slots.ensures, c.loop-p-test.false)) c.close.ensures.value c.close.ensures.out_after)
