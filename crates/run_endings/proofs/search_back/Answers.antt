use mathlib.Core.Path.{ap}
use mathlib.Core.Bool.{not}
use borrow.Author.Rules.{rules}
use mathlib.Core.Path.{sym, ◌∙◌}
use native.Mathlib.Omega.{arith}
use borrow.Author.Tests.{not-true, not-false}
use Rattle.run_endings.proofs.Upwards as laws
use Rattle.run_endings.proofs.search_back.Goals as goal

pub lines-init : goal.lines-init
lines-init c = laws.backs_start _ _ _

pub line_start-at-requires : goal.line_start-at-requires
line_start-at-requires c = (omega (arith, c.if-at-eq0.false), (c.lines.invariant.within, c.lines.invariant.edge))

pub overflow_add-count : goal.overflow_add-count
overflow_add-count c = omega (arith, c.lines.invariant.few, c.requires)

pub slice_bounds-is_blank_line-count : goal.slice_bounds-is_blank_line-count
slice_bounds-is_blank_line-count c = omega (arith, laws.here_in (c.lines.invariant) (c.line_start-at.ensures) (c.line_from-l.ensures))

pub slice_bounds-is_blank_line-start : goal.slice_bounds-is_blank_line-start
slice_bounds-is_blank_line-start c = omega (arith, laws.here_in (c.lines.invariant) (c.line_start-at.ensures) (c.line_from-l.ensures))

pub slice_bounds-is_blank_line-end : goal.slice_bounds-is_blank_line-end
slice_bounds-is_blank_line-end c = omega (arith, laws.here_in (c.lines.invariant) (c.line_start-at.ensures) (c.line_from-l.ensures))

pub slice_bounds-opens_brace-count : goal.slice_bounds-opens_brace-count
slice_bounds-opens_brace-count c = omega (arith, laws.here_in c.lines.invariant c.line_start-at.ensures c.line_from-l.ensures)

pub slice_bounds-opens_brace-start : goal.slice_bounds-opens_brace-start
slice_bounds-opens_brace-start c = omega (arith, laws.here_in c.lines.invariant c.line_start-at.ensures c.line_from-l.ensures)

pub slice_bounds-opens_brace-end : goal.slice_bounds-opens_brace-end
slice_bounds-opens_brace-end c = omega (arith, laws.here_in c.lines.invariant c.line_start-at.ensures c.line_from-l.ensures)

pub lines-smaller-then-not-opens_brace : goal.lines-smaller-then-not-opens_brace
lines-smaller-then-not-opens_brace c = c.line_start-at.ensures.below

pub lines-preserved-then-not-opens_brace : goal.lines-preserved-then-not-opens_brace
lines-preserved-then-not-opens_brace c =
    laws.backs_pass c.lines.invariant c.line_start-at.ensures c.line_from-l.ensures (sym c.if-is_blank_line.false ∙ c.is_blank_line.ensures) (sym (c.if-not-opens_brace.true) ∙ c.opens_brace.ensures)

pub overflow_add-lookahead : goal.overflow_add-lookahead
overflow_add-lookahead c =
    omega (arith, c.requires, laws.look_le c.lines.invariant, laws.run_le c.lines.invariant c.line_start-at.ensures c.line_from-l.ensures c.requires c.refused_run_at-r.ensures.value)

pub lines-smaller : goal.lines-smaller
lines-smaller c = c.line_start-at.ensures.below

pub lines-preserved : goal.lines-preserved
lines-preserved c =
    laws.backs_next (c.lines.invariant)
    (c.line_start-at.ensures)
    (c.line_from-l.ensures)
    (sym (c.if-is_blank_line.false) ∙
    (c.is_blank_line.ensures))
    (sym (not-false _ ((ap not c.if-not-opens_brace.false))) ∙
    (c.opens_brace.ensures))
    (c.requires) (omega arith)
    ((c.refused_run_at-r.ensures.value, (c.refused_run_at-r.ensures.join_after, c.refused_run_at-r.ensures.answer_value))) (c.verdict_of.ensures) c.in-Next.is

pub shape_of-join-then-at-eq0 : goal.shape_of-join-then-at-eq0
shape_of-join-then-at-eq0 c = c.lines.invariant.long

pub returns-then-at-eq0 : goal.returns-then-at-eq0
returns-then-at-eq0 c = let r = laws.backs_end (c.lines.invariant) (c.if-at-eq0.true) (c.ended.ensures) in record { value = r.0; join_after = r.1 }

pub shape_of-join-then-is_blank_line : goal.shape_of-join-then-is_blank_line
shape_of-join-then-is_blank_line c = c.lines.invariant.long

pub returns-then-is_blank_line : goal.returns-then-is_blank_line
returns-then-is_blank_line c = let r = laws.backs_blank c.lines.invariant c.line_start-at.ensures c.line_from-l.ensures (sym c.if-is_blank_line.true ∙ c.is_blank_line.ensures) c.ended-then-is_blank_line.ensures in record { value = r.0; join_after = r.1 }

pub shape_of-join-in-Told : goal.shape_of-join-in-Told
shape_of-join-in-Told c = omega (arith, c.lines.invariant.long)

pub returns-in-Told : goal.returns-in-Told
returns-in-Told c = let r = laws.backs_told (c.lines.invariant)
    (c.line_start-at.ensures)
    (c.line_from-l.ensures)
    (sym (c.if-is_blank_line.false) ∙
    (c.is_blank_line.ensures))
    (sym (not-false _ ((ap not c.if-not-opens_brace.false))) ∙
    (c.opens_brace.ensures))
    (c.requires)
    (omega arith) ((c.refused_run_at-r.ensures.value, (c.refused_run_at-r.ensures.join_after, c.refused_run_at-r.ensures.answer_value))) (c.verdict_of.ensures)
    c.in-Told.is (c.ended-in-Told.ensures) in record { value = r.0; join_after = r.1 }
