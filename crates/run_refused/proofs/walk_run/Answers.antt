use mathlib.Core.Path.{sym, ◌∙◌, ap}
use Prim.Native.Nat.{◌+◌}
use native.Mathlib.Omega.{arith}
use borrow.Author.Tests.{not-true, not-false}
use Rattle.run_refused.proofs.Walking as laws
use Rattle.run_refused.proofs.walk_run.Goals as goal

pub lines-init : goal.lines-init
lines-init c = laws.start _ _ _ (c.requires.1)

pub slice_bounds-halts_at-count : goal.slice_bounds-halts_at-count
slice_bounds-halts_at-count c = omega (arith, laws.line_in _ _ (c.if-text-at.false) (c.line_from-l.ensures))

pub slice_bounds-halts_at-start : goal.slice_bounds-halts_at-start
slice_bounds-halts_at-start c = omega (arith, laws.line_in _ _ (c.if-text-at.false) (c.line_from-l.ensures))

pub slice_bounds-halts_at-end : goal.slice_bounds-halts_at-end
slice_bounds-halts_at-end c = omega (arith, laws.line_in _ _ (c.if-text-at.false) (c.line_from-l.ensures))

pub halts_at-requires : goal.halts_at-requires
halts_at-requires c = omega (arith, c.lines.invariant.low)

pub slice_bounds-spot_at-count : goal.slice_bounds-spot_at-count
slice_bounds-spot_at-count c = omega (arith, laws.line_in _ _ (c.if-text-at.false) (c.line_from-l.ensures))

pub slice_bounds-spot_at-start : goal.slice_bounds-spot_at-start
slice_bounds-spot_at-start c = omega (arith, laws.line_in _ _ (c.if-text-at.false) (c.line_from-l.ensures))

pub slice_bounds-spot_at-end : goal.slice_bounds-spot_at-end
slice_bounds-spot_at-end c = omega (arith, laws.line_in _ _ (c.if-text-at.false) (c.line_from-l.ensures))

pub spot_at-spot-requires : goal.spot_at-spot-requires
spot_at-spot-requires c =
    omega (arith, c.requires.0, laws.line_long _ _ c.if-text-at.false c.line_from-l.ensures, laws.line_in _ _ c.if-text-at.false c.line_from-l.ensures)

pub slice_bounds-trim_ascii_start-count : goal.slice_bounds-trim_ascii_start-count
slice_bounds-trim_ascii_start-count c = omega (arith, laws.line_in _ _ c.if-text-at.false c.line_from-l.ensures)

pub slice_bounds-trim_ascii_start-start : goal.slice_bounds-trim_ascii_start-start
slice_bounds-trim_ascii_start-start c = omega (arith, laws.line_in _ _ c.if-text-at.false c.line_from-l.ensures)

pub slice_bounds-trim_ascii_start-end : goal.slice_bounds-trim_ascii_start-end
slice_bounds-trim_ascii_start-end c = omega (arith, laws.line_in _ _ c.if-text-at.false c.line_from-l.ensures)

pub overflow_add-from : goal.overflow_add-from
overflow_add-from c =
    omega (arith, laws.rest_in _ _ c.if-text-at.false c.line_from-l.ensures (ap (λ z. c.lines.at + z) c.trim_ascii_start.ensures), laws.line_in _ _ c.if-text-at.false c.line_from-l.ensures)

pub loop-i-init : goal.loop-i-init
loop-i-init c =
    laws.into c.lines.invariant c.if-text-at.false c.line_from-l.ensures c.requires.0 (sym c.if-halts_at.false ∙ c.halts_at.ensures) c.spot_at-spot.ensures c.shallow_or-shallow.ensures (ap (λ z. c.lines.at + z) c.trim_ascii_start.ensures)

pub bounds-text-i : goal.bounds-text-i
bounds-text-i c = omega (arith, c.loop-i.invariant.within)

pub bounds-text-i-in-loop-i : goal.bounds-text-i-in-loop-i
bounds-text-i-in-loop-i c = omega (arith, c.loop-i.invariant.within)

pub spot_after-spot-requires : goal.spot_after-spot-requires
spot_after-spot-requires c = omega (arith, c.loop-i.invariant.column)

pub loop-i-preserved : goal.loop-i-preserved
loop-i-preserved c =
    laws.go c.loop-i.invariant c.loop-i-test.true c.requires.0 (sym c.if-is_stray.false ∙ c.is_stray.ensures) c.spot_after-spot.ensures

pub overflow_add-n : goal.overflow_add-n
overflow_add-n c = omega (arith, c.lines.invariant.few, c.if-text-at.false)

pub lines-smaller : goal.lines-smaller
lines-smaller c = omega (arith, laws.line_in _ _ c.if-text-at.false c.line_from-l.ensures)

pub lines-preserved : goal.lines-preserved
lines-preserved c =
    laws.onward c.loop-i.invariant c.loop-i-test.false c.lines.invariant.few (omega (arith, laws.line_in _ _ c.if-text-at.false c.line_from-l.ensures)) (not-false _ c.if-not-spot.false)

pub returns-then-text-at : goal.returns-then-text-at
returns-then-text-at c = (c.no_block.ensures) ∙ laws.end (c.lines.invariant) (c.if-text-at.true)

pub returns-then-halts_at : goal.returns-then-halts_at
returns-then-halts_at c =
    c.no_block-then-halts_at.ensures ∙ laws.halt c.lines.invariant c.if-text-at.false c.line_from-l.ensures (sym c.if-halts_at.true ∙ c.halts_at.ensures)

pub returns-then-is_stray : goal.returns-then-is_stray
returns-then-is_stray c = laws.stray (c.loop-i.invariant) (c.loop-i-test.true) (sym (c.if-is_stray.true) ∙ (c.is_stray.ensures))

pub returns-then-not-spot : goal.returns-then-not-spot
returns-then-not-spot c = laws.closed (c.loop-i.invariant) (c.loop-i-test.false) (not-true _ (c.if-not-spot.true))
