use Prim.Native.Nat.{◌-◌}
use lib.ListN.{length}
use native.Mathlib.Omega.{arith}
use borrow.Author.Rules.{rules}
use Rattle.run_lines.specs.Runs.{run_at}
use Rattle.run_lines.proofs.Joining as laws
use Rattle.run_lines.proofs.join_run.Goals as goal

pub lines-init : goal.lines-init
lines-init c = laws.joins_start _ _ _ _ (c.hold_start.ensures.value)

pub slice_bounds-join_line-count : goal.slice_bounds-join_line-count
slice_bounds-join_line-count c = (laws.to_in (c.lines.invariant.has) (c.if-text-from.false) (c.line_from-l.ensures)).0

pub slice_bounds-join_line-start : goal.slice_bounds-join_line-start
slice_bounds-join_line-start c = omega (arith, laws.to_in (c.lines.invariant.has) (c.if-text-from.false) (c.line_from-l.ensures))

pub slice_bounds-join_line-end : goal.slice_bounds-join_line-end
slice_bounds-join_line-end c = omega (arith, laws.to_in (c.lines.invariant.has) (c.if-text-from.false) (c.line_from-l.ensures))

pub overflow_add-count : goal.overflow_add-count
overflow_add-count c = omega (arith, c.lines.invariant.has.few, c.if-text-from.false)

pub overflow_sub-to : goal.overflow_sub-to
overflow_sub-to c = (laws.to_in c.lines.invariant.has c.if-text-from.false c.line_from-l.ensures).0

pub overflow_add-lookahead : goal.overflow_add-lookahead
overflow_add-lookahead c =
    omega (arith, laws.to_in c.lines.invariant.has c.if-text-from.false c.line_from-l.ensures, c.lines.invariant.has.short)

pub overflow_add-count-in-Go : goal.overflow_add-count-in-Go
overflow_add-count-in-Go c = omega (arith, c.lines.invariant.has.few, c.if-text-from.false)

pub overflow_sub-lookahead : goal.overflow_sub-lookahead
overflow_sub-lookahead c = omega (arith, laws.to_in c.lines.invariant.has c.if-text-from.false c.line_from-l.ensures)

pub overflow_add-lookahead-in-Go : goal.overflow_add-lookahead-in-Go
overflow_add-lookahead-in-Go c =
    omega (arith, laws.to_in c.lines.invariant.has c.if-text-from.false c.line_from-l.ensures, c.lines.invariant.has.short)

pub lines-smaller : goal.lines-smaller
lines-smaller c = omega (arith, laws.next_in c.lines.invariant.has c.if-text-from.false c.line_from-l.ensures)

pub lines-preserved : goal.lines-preserved
lines-preserved c =
    laws.joins_go c.lines.invariant c.if-text-from.false c.line_from-l.ensures (c.join_line.ensures.value, (c.join_line.ensures.join_after, c.join_line.ensures.result_value)) c.in-Go.is

pub shape_of-join-then-text-from : goal.shape_of-join-then-text-from
shape_of-join-then-text-from c = laws.has_long (c.lines.invariant.has)

pub returns-then-text-from : goal.returns-then-text-from
returns-then-text-from c = let r = laws.joins_no _ _ _ _ (laws.joins_end (c.lines.invariant) (c.if-text-from.true) (c.refused.ensures)) in record { value = r.0; join_after = r.1.0; stop_value = r.1.1 }

pub shape_of-join-in-Broken : goal.shape_of-join-in-Broken
shape_of-join-in-Broken c =
    laws.joins_long c.lines.invariant c.if-text-from.false c.line_from-l.ensures (c.join_line.ensures.value, (c.join_line.ensures.join_after, c.join_line.ensures.result_value))

pub returns-in-Broken : goal.returns-in-Broken
returns-in-Broken c = let r = laws.joins_no _ _ _ _ (laws.joins_broken c.lines.invariant c.if-text-from.false c.line_from-l.ensures (c.join_line.ensures.value, (c.join_line.ensures.join_after, c.join_line.ensures.result_value)) c.in-Broken.is c.refused-in-Broken.ensures) in record { value = r.0; join_after = r.1.0; stop_value = r.1.1 }

pub shape_of-join-in-Full : goal.shape_of-join-in-Full
shape_of-join-in-Full c =
    laws.joins_long c.lines.invariant c.if-text-from.false c.line_from-l.ensures (c.join_line.ensures.value, (c.join_line.ensures.join_after, c.join_line.ensures.result_value))

pub returns-in-Full : goal.returns-in-Full
returns-in-Full c = let r = laws.joins_no _ _ _ _ (laws.joins_full c.lines.invariant c.if-text-from.false c.line_from-l.ensures (c.join_line.ensures.value, (c.join_line.ensures.join_after, c.join_line.ensures.result_value)) c.in-Full.is c.refused-in-Full.ensures) in record { value = r.0; join_after = r.1.0; stop_value = r.1.1 }

pub shape_of-join-in-Closes : goal.shape_of-join-in-Closes
shape_of-join-in-Closes c =
    laws.joins_long c.lines.invariant c.if-text-from.false c.line_from-l.ensures (c.join_line.ensures.value, (c.join_line.ensures.join_after, c.join_line.ensures.result_value))

pub returns-in-Closes : goal.returns-in-Closes
returns-in-Closes c = let r = laws.joins_no _ _ _ _ (laws.joins_closed c.lines.invariant c.if-text-from.false c.line_from-l.ensures (c.join_line.ensures.value, (c.join_line.ensures.join_after, c.join_line.ensures.result_value)) c.in-Closes.is c.closed.ensures) in record { value = r.0; join_after = r.1.0; stop_value = r.1.1 }
