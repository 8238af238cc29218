use mathlib.Core.Path.{refl}
use native.Mathlib.Omega.{arith}
use Rattle.sheet_numbers.proofs.Reading as laws
use Rattle.sheet_numbers.proofs.read_totals.Goals as goal

pub loop-b-init : goal.loop-b-init
loop-b-init c = laws.reads_start _ c.names-row.ensures (rw c.empty-totals.ensures refl)

pub returns-then-text-at : goal.returns-then-text-at
returns-then-text-at c = laws.reads_short c.loop-b.invariant (omega arith) (omega arith) c.no_report.ensures

pub returns-then-text-at-2 : goal.returns-then-text-at-2
returns-then-text-at-2 c = laws.reads_other c.loop-b.invariant (omega arith) (omega arith) c.if-text-at-2.true c.no_report-then-text-at-2.ensures

pub loop-b-preserved-then-b-ne9 : goal.loop-b-preserved-then-b-ne9
loop-b-preserved-then-b-ne9 c = laws.reads_name c.loop-b.invariant (omega arith) (omega arith) c.if-text-at-2.false c.if-b-ne9.true

pub returns-in-None : goal.returns-in-None
returns-in-None c = laws.reads_bad c.loop-b.invariant (omega arith) (omega arith) c.if-text-at-2.false c.if-b-ne9.false c.field_at.ensures c.in-None.is c.no_report-in-None.ensures

pub offset_bounds-totals-i : goal.offset_bounds-totals-i
offset_bounds-totals-i c = omega (arith, laws.reads_left c.loop-b.invariant (omega arith) (omega arith) c.if-text-at-2.false c.if-b-ne9.false)

pub bounds-totals-i : goal.bounds-totals-i
bounds-totals-i c = omega (arith, laws.reads_left c.loop-b.invariant (omega arith) (omega arith) c.if-text-at-2.false c.if-b-ne9.false)

pub overflow_add-i : goal.overflow_add-i
overflow_add-i c = omega (arith, laws.reads_left c.loop-b.invariant (omega arith) (omega arith) c.if-text-at-2.false c.if-b-ne9.false)

pub loop-b-preserved : goal.loop-b-preserved
loop-b-preserved c = laws.reads_number c.loop-b.invariant (omega arith) (omega arith) c.if-text-at-2.false c.if-b-ne9.false c.field_at.ensures c.in-Some.is

pub returns-then-at-text : goal.returns-then-at-text
returns-then-at-text c = laws.reads_more c.loop-b.invariant (omega arith) (omega arith) c.no_report-then-at-text.ensures

pub returns : goal.returns
returns c = laws.reads_end c.loop-b.invariant (omega arith) (omega arith)
