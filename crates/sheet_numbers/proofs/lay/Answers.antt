use native.Mathlib.Omega.{arith}
use Rattle.sheet_report.proofs.Laying.{put_long}
use Rattle.sheet_numbers.proofs.Laying as laws
use Rattle.sheet_numbers.proofs.lay.Goals as goal
use Rattle.sheet_numbers.proofs.lay.Goals.{then-b-eq9, else-b-eq9}

pub loop-b-init : goal.loop-b-init
loop-b-init c = laws.lays_start c.names-row.ensures (c.well_formed.0.1.1.0.1.0.1)

pub offset_bounds-totals-i : goal.offset_bounds-totals-i
offset_bounds-totals-i c = omega (arith, laws.lays_left c.loop-b.invariant (omega arith) c.if-b-eq9.true)

pub bounds-totals-i : goal.bounds-totals-i
bounds-totals-i c = omega (arith, laws.lays_left c.loop-b.invariant (omega arith) c.if-b-eq9.true)

pub put_number-at-requires : goal.put_number-at-requires
put_number-at-requires c = laws.lays_room c.loop-b.invariant (omega arith) c.if-b-eq9.true (omega arith)

pub overflow_add-i : goal.overflow_add-i
overflow_add-i c = omega (arith, laws.lays_left c.loop-b.invariant (omega arith) c.if-b-eq9.true)

pub bounds-out-at : goal.bounds-out-at
bounds-out-at c = laws.lays_at c.loop-b.invariant (omega arith) (omega arith)

pub overflow_add-at : goal.overflow_add-at
overflow_add-at c = omega (arith, laws.lays_at c.loop-b.invariant (omega arith) (omega arith))

pub loop-b-preserved : goal.loop-b-preserved
loop-b-preserved c =
    elim c.if-b-eq9.branch [
      | then-b-eq9 w ↦
          rw (w.out-is, w.at-is, w.i-is)
          (laws.lays_number c.loop-b.invariant (omega arith) w.if-b-eq9.true w.put_number-at.ensures.upper_bound w.put_number-at.ensures.put_at)
      | else-b-eq9 w ↦ rw (w.out-is, w.at-is, w.i-is) (laws.lays_byte c.loop-b.invariant (omega arith) w.if-b-eq9.false)
    ]

pub shape_of-out : goal.shape_of-out
shape_of-out c = put_long c.loop-b.invariant.put

pub returns : goal.returns
returns c = let r = laws.lays_end c.loop-b.invariant (omega arith) in record { put_at = r.0; upper_bound = r.1 }
