use native.Mathlib.Omega.{arith}
use Prim.Native.Nat.{◌-◌}
use borrow.Author.Rules.{rules}
use borrow.Author.Tests.{not-true, not-false}
use lib.ListN.{length-map}
use Rattle.set_table.specs.Types.{two}
use Rattle.set_merge.proofs.Rest as rest
use Rattle.set_merge.proofs.merge_rows.Goals as goal

pub returns-then-a-b-gt-CLASSES : goal.returns-then-a-b-gt-CLASSES
returns-then-a-b-gt-CLASSES c =
    rest.over_classes _ c.requires.0 c.requires.1 (c.well_formed.1.1.1.0.1.1.1.1.1.1.1.0.1.0.1) c.if-a-b-gt-CLASSES.true c.refusing.ensures.value

pub loop-i-init : goal.loop-i-init
loop-i-init c =
    rest.start _ c.requires.0 c.requires.1 (c.well_formed.1.1.1.0.1.1.1.1.1.1.1.0.1.0.1) c.if-a-b-gt-CLASSES.false

pub offset_bounds-b-i : goal.offset_bounds-b-i
offset_bounds-b-i c = omega (arith, c.requires.1.norder)

pub bounds-b-i : goal.bounds-b-i
bounds-b-i c = omega (arith, c.requires.1.norder)

pub put_slot-step-requires : goal.put_slot-step-requires
put_slot-step-requires c =
    (c.loop-i.invariant.held, rest.present c.loop-i.invariant c.requires.1 (c.well_formed.1.1.1.0.1.1.1.1.1.1.1.1.1.0.1.0.1) c.loop-i-test.true (c.well_formed.1.1.1.0.1.1.1.1.1.1.1.0.1.0.1) (c.well_formed.1.1.1.0.1.1.1.1.1.1.1.1.0.1.0.1))

pub returns-then-not-step : goal.returns-then-not-step
returns-then-not-step c =
    rest.over_keys c.loop-i.invariant c.requires.1 (c.well_formed.1.1.1.0.1.1.1.1.1.1.1.1.1.0.1.0.1) c.loop-i-test.true c.put_slot-step.ensures (not-true _ c.if-not-step.true) c.refusing-then-not-step.ensures.value

pub loop-i-preserved : goal.loop-i-preserved
loop-i-preserved c =
    rest.next c.loop-i.invariant c.requires.1 (c.well_formed.1.1.1.0.1.1.1.1.1.1.1.1.1.0.1.0.1) c.loop-i-test.true c.put_slot-step.ensures (not-false _ c.if-not-step.false)

pub returns : goal.returns
returns c =
    rest.end c.loop-i.invariant (c.well_formed.1.1.1.0.1.1.1.1.1.1.1.1.1.0.1.0.1) c.requires.1.norder (omega arith)
