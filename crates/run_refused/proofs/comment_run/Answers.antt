use borrow.Author.Rules.{rules}
use mathlib.Core.Path.{refl, sym, ◌∙◌}
use mathlib.Core.Bool.{false}
use Prim.Native.Nat.{◌-◌}
use native.Mathlib.Omega.{arith}
use lib.ListN.{length, drop}
use Rattle.text_lines.specs.Lines.{lines}
use Rattle.run_refused.specs.Refused.{comment_from}
use Rattle.run_refused.proofs.Walking.{line_in}
use Rattle.run_refused.proofs.Comments as laws
use Rattle.run_refused.proofs.comment_run.Goals as goal

pub lines-init : goal.lines-init
lines-init c = record { few = omega arith; rest = refl }

pub slice_bounds-is_blank_line-count : goal.slice_bounds-is_blank_line-count
slice_bounds-is_blank_line-count c = omega (arith, line_in _ _ (c.if-text-at.false) (c.line_from-l.ensures))

pub slice_bounds-is_blank_line-start : goal.slice_bounds-is_blank_line-start
slice_bounds-is_blank_line-start c = omega (arith, line_in _ _ (c.if-text-at.false) (c.line_from-l.ensures))

pub slice_bounds-is_blank_line-end : goal.slice_bounds-is_blank_line-end
slice_bounds-is_blank_line-end c = omega (arith, line_in _ _ (c.if-text-at.false) (c.line_from-l.ensures))

pub slice_bounds-indent_columns-count : goal.slice_bounds-indent_columns-count
slice_bounds-indent_columns-count c = omega (arith, line_in _ _ (c.if-text-at.false) (c.line_from-l.ensures))

pub slice_bounds-indent_columns-start : goal.slice_bounds-indent_columns-start
slice_bounds-indent_columns-start c = omega (arith, line_in _ _ (c.if-text-at.false) (c.line_from-l.ensures))

pub slice_bounds-indent_columns-end : goal.slice_bounds-indent_columns-end
slice_bounds-indent_columns-end c = omega (arith, line_in _ _ (c.if-text-at.false) (c.line_from-l.ensures))

pub slice_bounds-closes_comment-count : goal.slice_bounds-closes_comment-count
slice_bounds-closes_comment-count c = omega (arith, line_in _ _ c.if-text-at.false c.line_from-l.ensures)

pub slice_bounds-closes_comment-start : goal.slice_bounds-closes_comment-start
slice_bounds-closes_comment-start c = omega (arith, line_in _ _ c.if-text-at.false c.line_from-l.ensures)

pub slice_bounds-closes_comment-end : goal.slice_bounds-closes_comment-end
slice_bounds-closes_comment-end c = omega (arith, line_in _ _ c.if-text-at.false c.line_from-l.ensures)

pub overflow_add-n : goal.overflow_add-n
overflow_add-n c = omega (arith, c.lines.invariant.few, c.if-text-at.false)

pub overflow_add-n-in-lines : goal.overflow_add-n-in-lines
overflow_add-n-in-lines c = omega (arith, c.lines.invariant.few, c.if-text-at.false)

pub lines-smaller : goal.lines-smaller
lines-smaller c = omega (arith, line_in _ _ c.if-text-at.false c.line_from-l.ensures)

pub lines-preserved : goal.lines-preserved
lines-preserved c =
    laws.comment_on c.lines.invariant c.if-text-at.false c.line_from-l.ensures (sym c.if-is_blank_line.false ∙ c.is_blank_line.ensures) c.requires c.indent_columns-column.ensures c.shallow_or-shallow.ensures (sym c.if-closes_comment.false ∙ c.closes_comment.ensures)

pub returns-then-text-at : goal.returns-then-text-at
returns-then-text-at c = laws.comment_end (c.lines.invariant) (c.if-text-at.true)

pub returns-then-is_blank_line : goal.returns-then-is_blank_line
returns-then-is_blank_line c = laws.comment_blank c.lines.invariant c.if-text-at.false c.line_from-l.ensures (sym c.if-is_blank_line.true ∙ c.is_blank_line.ensures)

pub returns-then-closes_comment : goal.returns-then-closes_comment
returns-then-closes_comment c =
    laws.comment_closes c.lines.invariant c.if-text-at.false c.line_from-l.ensures (sym c.if-is_blank_line.false ∙ c.is_blank_line.ensures) c.requires c.indent_columns-column.ensures c.shallow_or-shallow.ensures (sym c.if-closes_comment.true ∙ c.closes_comment.ensures) c.comment_answer.ensures
