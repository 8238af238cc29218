use Prim.Native.Nat.{◌-◌}
use native.Mathlib.Omega.{arith}
use lib.ListN.{length}
use borrow.Author.Rules.{rules}
use Rattle.set_columns.specs.Inner.{range_at}
use Rattle.set_columns.proofs.Laid as laws
use Rattle.set_columns.proofs.lists.widths_over.Goals as goal

pub pieces-init : goal.pieces-init
pieces-init c = laws.lays_start _ _ _ _ c.well_formed.0.1.0.1

pub offset_bounds-out-i : goal.offset_bounds-out-i
offset_bounds-out-i c = omega (arith, c.if-i-ge-MOST.false)

pub bounds-out-i : goal.bounds-out-i
bounds-out-i c = omega (arith, c.if-i-ge-MOST.false)

pub overflow_add-base : goal.overflow_add-base
overflow_add-base c = omega (arith, laws.last_inside c.pieces.invariant c.cut_from.ensures.value c.in-Last.is, laws.range_room _ _ c.args.from c.args.to c.range_of-s.ensures (omega (arith, c.ranges)) (omega (arith, c.ranges)))

pub overflow_cast-base-in-Last : goal.overflow_cast-base-in-Last
overflow_cast-base-in-Last c = omega (arith, laws.last_inside c.pieces.invariant c.cut_from.ensures.value c.in-Last.is, laws.range_room _ _ c.args.from c.args.to c.range_of-s.ensures (omega (arith, c.ranges)) (omega (arith, c.ranges)))

pub overflow_add-base-in-Last : goal.overflow_add-base-in-Last
overflow_add-base-in-Last c = omega (arith, laws.last_inside c.pieces.invariant c.cut_from.ensures.value c.in-Last.is, laws.range_room _ _ c.args.from c.args.to c.range_of-s.ensures (omega (arith, c.ranges)) (omega (arith, c.ranges)))

pub overflow_cast-base-in-Last-2 : goal.overflow_cast-base-in-Last-2
overflow_cast-base-in-Last-2 c = omega (arith, laws.last_inside c.pieces.invariant c.cut_from.ensures.value c.in-Last.is, laws.range_room _ _ c.args.from c.args.to c.range_of-s.ensures (omega (arith, c.ranges)) (omega (arith, c.ranges)))

pub offset_bounds-out-i-in-Last : goal.offset_bounds-out-i-in-Last
offset_bounds-out-i-in-Last c = omega (arith, c.if-i-ge-MOST.false)

pub bounds-out-i-in-Last : goal.bounds-out-i-in-Last
bounds-out-i-in-Last c = omega (arith, c.if-i-ge-MOST.false)

pub offset_bounds-out-i-in-Comma : goal.offset_bounds-out-i-in-Comma
offset_bounds-out-i-in-Comma c = omega (arith, c.if-i-ge-MOST.false)

pub bounds-out-i-in-Comma : goal.bounds-out-i-in-Comma
bounds-out-i-in-Comma c = omega (arith, c.if-i-ge-MOST.false)

pub overflow_add-base-in-Comma : goal.overflow_add-base-in-Comma
overflow_add-base-in-Comma c = omega (arith, laws.comma_inside c.pieces.invariant c.cut_from.ensures.value c.in-Comma.is, laws.range_room _ _ c.args.from c.args.to c.range_of-s.ensures (omega (arith, c.ranges)) (omega (arith, c.ranges)))

pub overflow_cast-base-in-Comma : goal.overflow_cast-base-in-Comma
overflow_cast-base-in-Comma c = omega (arith, laws.comma_inside c.pieces.invariant c.cut_from.ensures.value c.in-Comma.is, laws.range_room _ _ c.args.from c.args.to c.range_of-s.ensures (omega (arith, c.ranges)) (omega (arith, c.ranges)))

pub overflow_add-base-in-Comma-2 : goal.overflow_add-base-in-Comma-2
overflow_add-base-in-Comma-2 c = omega (arith, laws.comma_inside c.pieces.invariant c.cut_from.ensures.value c.in-Comma.is, laws.range_room _ _ c.args.from c.args.to c.range_of-s.ensures (omega (arith, c.ranges)) (omega (arith, c.ranges)))

pub overflow_cast-base-in-Comma-2 : goal.overflow_cast-base-in-Comma-2
overflow_cast-base-in-Comma-2 c = omega (arith, laws.comma_inside c.pieces.invariant c.cut_from.ensures.value c.in-Comma.is, laws.range_room _ _ c.args.from c.args.to c.range_of-s.ensures (omega (arith, c.ranges)) (omega (arith, c.ranges)))

pub offset_bounds-out-i-in-Comma-2 : goal.offset_bounds-out-i-in-Comma-2
offset_bounds-out-i-in-Comma-2 c = omega (arith, c.if-i-ge-MOST.false)

pub bounds-out-i-in-Comma-2 : goal.bounds-out-i-in-Comma-2
bounds-out-i-in-Comma-2 c = omega (arith, c.if-i-ge-MOST.false)

pub overflow_add-i : goal.overflow_add-i
overflow_add-i c = omega (arith, c.if-i-ge-MOST.false)

pub pieces-smaller : goal.pieces-smaller
pieces-smaller c = omega (arith, laws.comma-ahead c.pieces.invariant c.cut_from.ensures.value c.in-Comma.is)

pub pieces-preserved : goal.pieces-preserved
pieces-preserved c = rw (c.with_width-in-Comma.ensures) (laws.lays_go c.pieces.invariant c.cut_from.ensures.value c.in-Comma.is)

pub returns-then-i-ge-MOST : goal.returns-then-i-ge-MOST
returns-then-i-ge-MOST c = rw (← c.range_of-s.ensures) (laws.lays_full c.pieces.invariant c.if-i-ge-MOST.true)

pub returns-in-Last : goal.returns-in-Last
returns-in-Last c = rw (← c.range_of-s.ensures) (rw (c.with_width.ensures) (laws.lays_end c.pieces.invariant c.cut_from.ensures.value c.in-Last.is))
