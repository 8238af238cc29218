use borrow.Author.Rules.{rules}
use mathlib.Core.Path.{ap}
use Prim.Native.Nat.{◌+◌, ◌-◌}
use native.Mathlib.Omega.{arith}
use borrow.Author.Tests.{not-true, not-false}
use lib.ListN.{length}
use Rattle.run_refused.specs.Inner.{padded_run}
use Rattle.run_refused.proofs.Padding as laws
use Rattle.run_refused.proofs.join_padded.Goals as goal

pub lines-init : goal.lines-init
lines-init c =
    laws.pads_start _ _ _ _ (c.run_start-st.ensures) (c.requires.1.0) (c.requires.1.1)

pub slice_bounds-trim_ascii_start-count : goal.slice_bounds-trim_ascii_start-count
slice_bounds-trim_ascii_start-count c = omega (arith, laws.here_in (c.lines.invariant) (c.line_from-l.ensures))

pub slice_bounds-trim_ascii_start-start : goal.slice_bounds-trim_ascii_start-start
slice_bounds-trim_ascii_start-start c = omega (arith, laws.here_in (c.lines.invariant) (c.line_from-l.ensures))

pub slice_bounds-trim_ascii_start-end : goal.slice_bounds-trim_ascii_start-end
slice_bounds-trim_ascii_start-end c = omega (arith, laws.here_in (c.lines.invariant) (c.line_from-l.ensures))

pub overflow_add-from : goal.overflow_add-from
overflow_add-from c =
    omega (arith, laws.here_in (c.lines.invariant) (c.line_from-l.ensures), laws.from_in (c.lines.invariant) (c.line_from-l.ensures) (ap (λ z. c.lines.at + z) (c.trim_ascii_start.ensures)), c.requires.0)

pub slice_bounds-spot_at-count : goal.slice_bounds-spot_at-count
slice_bounds-spot_at-count c = omega (arith, laws.here_in (c.lines.invariant) (c.line_from-l.ensures))

pub slice_bounds-spot_at-start : goal.slice_bounds-spot_at-start
slice_bounds-spot_at-start c = omega (arith, laws.here_in (c.lines.invariant) (c.line_from-l.ensures))

pub slice_bounds-spot_at-end : goal.slice_bounds-spot_at-end
slice_bounds-spot_at-end c = omega (arith, laws.here_in (c.lines.invariant) (c.line_from-l.ensures))

pub spot_at-spot-requires : goal.spot_at-spot-requires
spot_at-spot-requires c = omega (arith, laws.here_in c.lines.invariant c.line_from-l.ensures, c.requires.0)

pub pad_of-pad-requires : goal.pad_of-pad-requires
pad_of-pad-requires c = omega (arith, c.lines.invariant.low)

pub slice_bounds-join_line-count : goal.slice_bounds-join_line-count
slice_bounds-join_line-count c =
    omega (arith, laws.here_in c.lines.invariant c.line_from-l.ensures, laws.from_in c.lines.invariant c.line_from-l.ensures (ap (λ z. c.lines.at + z) c.trim_ascii_start.ensures))

pub slice_bounds-join_line-start : goal.slice_bounds-join_line-start
slice_bounds-join_line-start c =
    omega (arith, laws.here_in c.lines.invariant c.line_from-l.ensures, laws.from_in c.lines.invariant c.line_from-l.ensures (ap (λ z. c.lines.at + z) c.trim_ascii_start.ensures))

pub slice_bounds-join_line-end : goal.slice_bounds-join_line-end
slice_bounds-join_line-end c =
    omega (arith, laws.here_in c.lines.invariant c.line_from-l.ensures, laws.from_in c.lines.invariant c.line_from-l.ensures (ap (λ z. c.lines.at + z) c.trim_ascii_start.ensures))

pub overflow_add-n : goal.overflow_add-n
overflow_add-n c =
    omega (arith, c.lines.invariant.few, c.requires.0, laws.pads_some c.lines.invariant)

pub overflow_sub-to : goal.overflow_sub-to
overflow_sub-to c = omega (arith, laws.here_in c.lines.invariant c.line_from-l.ensures)

pub overflow_add-lookahead : goal.overflow_add-lookahead
overflow_add-lookahead c =
    omega (arith, laws.here_in c.lines.invariant c.line_from-l.ensures, c.lines.invariant.short, c.requires.0)

pub slice_bounds-pass_over-count : goal.slice_bounds-pass_over-count
slice_bounds-pass_over-count c =
    omega (arith, laws.here_in c.lines.invariant c.line_from-l.ensures, laws.from_in c.lines.invariant c.line_from-l.ensures (ap (λ z. c.lines.at + z) c.trim_ascii_start.ensures))

pub slice_bounds-pass_over-start : goal.slice_bounds-pass_over-start
slice_bounds-pass_over-start c =
    omega (arith, laws.here_in c.lines.invariant c.line_from-l.ensures, laws.from_in c.lines.invariant c.line_from-l.ensures (ap (λ z. c.lines.at + z) c.trim_ascii_start.ensures))

pub slice_bounds-pass_over-end : goal.slice_bounds-pass_over-end
slice_bounds-pass_over-end c =
    omega (arith, laws.here_in c.lines.invariant c.line_from-l.ensures, laws.from_in c.lines.invariant c.line_from-l.ensures (ap (λ z. c.lines.at + z) c.trim_ascii_start.ensures))

pub pass_over-end-requires : goal.pass_over-end-requires
pass_over-end-requires c =
    omega (arith, c.requires.0, laws.here_in c.lines.invariant c.line_from-l.ensures, laws.rest_long c.lines.invariant c.line_from-l.ensures (ap (λ z. c.lines.at + z) c.trim_ascii_start.ensures), laws.spot_small c.lines.invariant c.line_from-l.ensures (ap (λ z. c.lines.at + z) c.trim_ascii_start.ensures) c.requires.0 c.spot_at-spot.ensures)

pub overflow_add-n-in-Go : goal.overflow_add-n-in-Go
overflow_add-n-in-Go c =
    omega (arith, c.lines.invariant.few, c.requires.0, laws.pads_some c.lines.invariant)

pub overflow_sub-lookahead : goal.overflow_sub-lookahead
overflow_sub-lookahead c =
    omega (arith, laws.here_in c.lines.invariant c.line_from-l.ensures, laws.from_in c.lines.invariant c.line_from-l.ensures (ap (λ z. c.lines.at + z) c.trim_ascii_start.ensures))

pub overflow_add-lookahead-in-Go : goal.overflow_add-lookahead-in-Go
overflow_add-lookahead-in-Go c =
    omega (arith, laws.here_in c.lines.invariant c.line_from-l.ensures, laws.from_in c.lines.invariant c.line_from-l.ensures (ap (λ z. c.lines.at + z) c.trim_ascii_start.ensures), c.lines.invariant.short, c.requires.0)

pub lines-smaller : goal.lines-smaller
lines-smaller c =
    omega (arith, laws.here_in c.lines.invariant c.line_from-l.ensures)

pub lines-preserved : goal.lines-preserved
lines-preserved c =
    laws.pads_go c.lines.invariant c.line_from-l.ensures (ap (λ z. c.lines.at + z) c.trim_ascii_start.ensures) c.requires.0 c.spot_at-spot.ensures c.pad_of-pad.ensures (c.join_line.ensures.value, (c.join_line.ensures.join_after, c.join_line.ensures.result_value)) c.in-Go.is c.pass_over-end.ensures (not-false _ c.if-not-end.false)

pub shape_of-join-in-Broken : goal.shape_of-join-in-Broken
shape_of-join-in-Broken c =
    laws.pads_same c.lines.invariant c.line_from-l.ensures (ap (λ z. c.lines.at + z) c.trim_ascii_start.ensures) c.requires.0 c.spot_at-spot.ensures c.pad_of-pad.ensures (c.join_line.ensures.value, (c.join_line.ensures.join_after, c.join_line.ensures.result_value))

pub returns-in-Broken : goal.returns-in-Broken
returns-in-Broken c = let r = laws.pads_broken c.lines.invariant c.line_from-l.ensures (ap (λ z. c.lines.at + z) c.trim_ascii_start.ensures) c.requires.0 c.spot_at-spot.ensures c.pad_of-pad.ensures (c.join_line.ensures.value, (c.join_line.ensures.join_after, c.join_line.ensures.result_value)) c.in-Broken.is c.stopped.ensures in record { value = r.0; join_after = r.1 }

pub shape_of-join-in-Full : goal.shape_of-join-in-Full
shape_of-join-in-Full c =
    laws.pads_same c.lines.invariant c.line_from-l.ensures (ap (λ z. c.lines.at + z) c.trim_ascii_start.ensures) c.requires.0 c.spot_at-spot.ensures c.pad_of-pad.ensures (c.join_line.ensures.value, (c.join_line.ensures.join_after, c.join_line.ensures.result_value))

pub returns-in-Full : goal.returns-in-Full
returns-in-Full c = let r = laws.pads_full c.lines.invariant c.line_from-l.ensures (ap (λ z. c.lines.at + z) c.trim_ascii_start.ensures) c.requires.0 c.spot_at-spot.ensures c.pad_of-pad.ensures (c.join_line.ensures.value, (c.join_line.ensures.join_after, c.join_line.ensures.result_value)) c.in-Full.is c.stopped-in-Full.ensures in record { value = r.0; join_after = r.1 }

pub shape_of-join-in-Closes : goal.shape_of-join-in-Closes
shape_of-join-in-Closes c =
    laws.pads_same c.lines.invariant c.line_from-l.ensures (ap (λ z. c.lines.at + z) c.trim_ascii_start.ensures) c.requires.0 c.spot_at-spot.ensures c.pad_of-pad.ensures (c.join_line.ensures.value, (c.join_line.ensures.join_after, c.join_line.ensures.result_value))

pub returns-in-Closes : goal.returns-in-Closes
returns-in-Closes c = let r = laws.pads_closed c.lines.invariant c.line_from-l.ensures (ap (λ z. c.lines.at + z) c.trim_ascii_start.ensures) c.requires.0 c.spot_at-spot.ensures c.pad_of-pad.ensures (c.join_line.ensures.value, (c.join_line.ensures.join_after, c.join_line.ensures.result_value)) c.in-Closes.is c.closed_run.ensures in record { value = r.0; join_after = r.1 }

pub shape_of-join-then-not-end : goal.shape_of-join-then-not-end
shape_of-join-then-not-end c =
    laws.pads_same c.lines.invariant c.line_from-l.ensures (ap (λ z. c.lines.at + z) c.trim_ascii_start.ensures) c.requires.0 c.spot_at-spot.ensures c.pad_of-pad.ensures (c.join_line.ensures.value, (c.join_line.ensures.join_after, c.join_line.ensures.result_value))

pub returns-then-not-end : goal.returns-then-not-end
returns-then-not-end c = let r = laws.pads_last c.lines.invariant c.line_from-l.ensures (ap (λ z. c.lines.at + z) c.trim_ascii_start.ensures) c.requires.0 c.spot_at-spot.ensures c.pad_of-pad.ensures (c.join_line.ensures.value, (c.join_line.ensures.join_after, c.join_line.ensures.result_value)) c.in-Go.is c.pass_over-end.ensures (not-true _ c.if-not-end.true) c.stopped-then-not-end.ensures in record { value = r.0; join_after = r.1 }
