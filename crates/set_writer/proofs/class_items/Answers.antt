use native.Mathlib.Omega.{arith}
use Prim.Native.Nat.{◌<◌}
use lib.ListN.{length-take}
use lib.Seq.{get_or-take}
use Rattle.set_table.specs.Types.{zero_value}
use Rattle.set_writer.proofs.Walks as walks
use Rattle.set_writer.proofs.Fills as fills
use Rattle.set_writer.proofs.class_items.Goals as goal

pub loop-value-init : goal.loop-value-init
loop-value-init c =
    walks.classes_start _ _ _ _ _ _ (c.well_formed.1.1.1.1.0.1.0.1) (c.requires.at_le_max_text) (c.requires.classes_in_bounds)

pub item-k-requires : goal.item-k-requires
item-k-requires c =
    let m = c.least-many.result in
    let h : c.loop-value.value-index < m = omega (arith, c.loop-value-test.true, length-take m c.args.classes) in
    record {
      at_le_max_items = (omega (arith, h, c.loop-value.invariant, c.least-many.ensures), omega arith);
      value_in_bounds = rw (get_or-take m c.args.classes c.loop-value.value-index zero_value h) (walks.classes_room c.loop-value.invariant (omega (arith, h, c.least-many.ensures)));
    }

pub loop-value-preserved : goal.loop-value-preserved
loop-value-preserved c =
    let m = c.least-many.result in
    let h : c.loop-value.value-index < m = omega (arith, c.loop-value-test.true, length-take m c.args.classes) in
    let e = get_or-take m c.args.classes c.loop-value.value-index zero_value h in
    walks.classes_go c.loop-value.invariant (omega (arith, h, c.least-many.ensures)) (rw e at c.item-k.ensures.value) (rw e at c.item-k.ensures.out_after)

pub shape_of-out : goal.shape_of-out
shape_of-out c = c.loop-value.invariant.fills.long

pub returns : goal.returns
returns c =
    fills.both (walks.classes_end c.loop-value.invariant (omega (arith, c.least-many.ensures, c.loop-value-test.false, length-take c.least-many.result c.args.classes, c.well_formed.1.1.1.1.0.1.0.1)))
