use borrow.Author.Rules.{rules}
use native.Mathlib.Omega.{arith}
use mathlib.Core.Path.{refl}
use mathlib.Core.List.{[]}
use Prim.Native.Nat.{◌<◌}
use lib.ListN.{length-take}
use lib.Seq.{get_or-take}
use Rattle.set_table.specs.Types.{one, zero_value}
use Rattle.set_table.proofs.Holding as holding
use Rattle.set_merge.proofs.Tables as tables
use Rattle.set_merge.proofs.put_classes.Goals as goal

pub loop-class-init : goal.loop-class-init
loop-class-init c = tables.joins_start _ _ c.requires.0

pub offset_bounds-set-n : goal.offset_bounds-set-n
offset_bounds-set-n c = omega (arith, c.requires, c.loop-class.invariant.count, length-take c.args.m c.args.from)

pub bounds-set-n : goal.bounds-set-n
bounds-set-n c = omega (arith, c.requires, c.loop-class.invariant.count, length-take c.args.m c.args.from)

pub overflow_add-set : goal.overflow_add-set
overflow_add-set c = omega (arith, c.requires, c.loop-class.invariant.count, length-take c.args.m c.args.from)

pub loop-class-preserved-then-n-gt0 : goal.loop-class-preserved-then-n-gt0
loop-class-preserved-then-n-gt0 c =
    let h : c.loop-class.class-index < c.args.m = omega (arith, length-take c.args.m c.args.from) in
    rw (get_or-take c.args.m c.args.from c.loop-class.class-index zero_value h) (tables.joins_go c.loop-class.invariant h (omega (arith, c.requires, c.well_formed.1.0.1.0.1)) refl (λ t. holding.class_again (c.loop-class.invariant.after t) t _ (omega (arith, h, c.requires, c.loop-class.invariant.count)) c.if-n-gt0.true))

pub overflow_cast-p : goal.overflow_cast-p
overflow_cast-p c = omega (arith, holding.few (c.loop-class.invariant.after (one [])))

pub offset_bounds-set-p : goal.offset_bounds-set-p
offset_bounds-set-p c = omega (arith, holding.few (c.loop-class.invariant.after (one [])))

pub bounds-set-p : goal.bounds-set-p
bounds-set-p c = omega (arith, holding.room_class (c.loop-class.invariant.after (one [])) c.if-n-gt0.false)

pub overflow_add-set-in-loop-class : goal.overflow_add-set-in-loop-class
overflow_add-set-in-loop-class c = omega (arith, holding.few (c.loop-class.invariant.after (one [])))

pub loop-class-preserved : goal.loop-class-preserved
loop-class-preserved c =
    let h : c.loop-class.class-index < c.args.m = omega (arith, length-take c.args.m c.args.from) in
    rw (get_or-take c.args.m c.args.from c.loop-class.class-index zero_value h) (tables.joins_go c.loop-class.invariant h (omega (arith, c.requires, c.well_formed.1.0.1.0.1)) refl (λ t. holding.class_first (c.loop-class.invariant.after t) t _ (omega (arith, h, c.requires, c.loop-class.invariant.count)) c.if-n-gt0.false))

pub returns : goal.returns
returns c = tables.joins_end c.loop-class.invariant (omega (arith, length-take c.args.m c.args.from, c.requires, c.well_formed.1.0.1.0.1))
