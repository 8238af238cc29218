use mathlib.Core.Path.{sym, ◌∙◌}
use native.Mathlib.Omega.{arith}
use borrow.Author.Tests.{not-true, not-false}
use lib.ListN.{length}
use Rattle.run_refused.proofs.Walking.{line_in}
use Rattle.run_refused.proofs.Answers as laws
use borrow.Author.Rules.{rules}
use Rattle.run_refused.proofs.refused_at.Goals as goal

pub slice_bounds-opens_brace-count : goal.slice_bounds-opens_brace-count
slice_bounds-opens_brace-count c =
    omega (arith, line_in c.args.text.now c.args.at (c.requires.1) (c.line_from-l.ensures))

pub slice_bounds-opens_brace-start : goal.slice_bounds-opens_brace-start
slice_bounds-opens_brace-start c =
    omega (arith, line_in c.args.text.now c.args.at (c.requires.1) (c.line_from-l.ensures))

pub slice_bounds-opens_brace-end : goal.slice_bounds-opens_brace-end
slice_bounds-opens_brace-end c =
    omega (arith, line_in c.args.text.now c.args.at (c.requires.1) (c.line_from-l.ensures))

pub returns-then-not-opens_brace : goal.returns-then-not-opens_brace
returns-then-not-opens_brace c = let r = laws.unjoined_told _ _ (laws.told_none (length c.args.join.now) c.args.text.now c.args.at c.requires.1 c.line_from-l.ensures (sym (c.if-not-opens_brace.true) ∙ c.opens_brace.ensures)) c.unjoined_run.ensures in record { value = r.0; join_after = r.1 }

pub slice_bounds-indent_columns-count : goal.slice_bounds-indent_columns-count
slice_bounds-indent_columns-count c = omega (arith, line_in c.args.text.now c.args.at c.requires.1 c.line_from-l.ensures)

pub slice_bounds-indent_columns-start : goal.slice_bounds-indent_columns-start
slice_bounds-indent_columns-start c = omega (arith, line_in c.args.text.now c.args.at c.requires.1 c.line_from-l.ensures)

pub slice_bounds-indent_columns-end : goal.slice_bounds-indent_columns-end
slice_bounds-indent_columns-end c = omega (arith, line_in c.args.text.now c.args.at c.requires.1 c.line_from-l.ensures)

pub slice_bounds-opens_comment-count : goal.slice_bounds-opens_comment-count
slice_bounds-opens_comment-count c = omega (arith, line_in c.args.text.now c.args.at c.requires.1 c.line_from-l.ensures)

pub slice_bounds-opens_comment-start : goal.slice_bounds-opens_comment-start
slice_bounds-opens_comment-start c = omega (arith, line_in c.args.text.now c.args.at c.requires.1 c.line_from-l.ensures)

pub slice_bounds-opens_comment-end : goal.slice_bounds-opens_comment-end
slice_bounds-opens_comment-end c = omega (arith, line_in c.args.text.now c.args.at c.requires.1 c.line_from-l.ensures)

pub returns-then-opens_comment : goal.returns-then-opens_comment
returns-then-opens_comment c = let r = laws.unjoined_told _ _ (laws.told_comment (length c.args.join.now) c.args.text.now c.args.at c.requires.1 c.line_from-l.ensures
    (sym (c.if-not-opens_brace.false) ∙ c.opens_brace.ensures) c.requires.0 c.indent_columns-opener.ensures
    (sym c.if-opens_comment.true ∙ c.opens_comment.ensures) c.comment_run.ensures) c.unjoined_run-then-opens_comment.ensures in record { value = r.0; join_after = r.1 }

pub walk_run-requires : goal.walk_run-requires
walk_run-requires c =
    (c.requires.0, laws.opener_low (length c.args.join.now) c.args.text.now c.args.at c.requires.1 c.line_from-l.ensures (sym (c.if-not-opens_brace.false) ∙ c.opens_brace.ensures) c.requires.0 c.indent_columns-opener.ensures)

pub refused_block-requires : goal.refused_block-requires
refused_block-requires c = (
  c.requires.0,
  (
    laws.opener_low (length c.args.join.now) c.args.text.now c.args.at c.requires.1 c.line_from-l.ensures
        (sym (c.if-not-opens_brace.false) ∙ c.opens_brace.ensures) c.requires.0 c.indent_columns-opener.ensures,
    (laws.told_block (length c.args.join.now) c.args.text.now
        c.args.at c.requires.1 c.line_from-l.ensures (sym (c.if-not-opens_brace.false) ∙ c.opens_brace.ensures) c.requires.0 c.indent_columns-opener.ensures
        (sym c.if-opens_comment.false ∙ c.opens_comment.ensures) c.if-shallow.true (sym c.in-Block.is ∙ c.walk_run.ensures)).0,
  ),
)

pub returns-then-shallow : goal.returns-then-shallow
returns-then-shallow c =
    let e = (laws.told_block (length c.args.join.now) c.args.text.now c.args.at c.requires.1 c.line_from-l.ensures
    (sym (c.if-not-opens_brace.false) ∙ c.opens_brace.ensures) c.requires.0 c.indent_columns-opener.ensures (sym c.if-opens_comment.false ∙ c.opens_comment.ensures) c.if-shallow.true
    (sym c.in-Block.is ∙ c.walk_run.ensures)).1 in
    record { value = rw e c.refused_block.ensures.value; join_after = rw e c.refused_block.ensures.join_after }

pub returns-in-No : goal.returns-in-No
returns-in-No c = let r = laws.unjoined_told _ _ (laws.told_no (length c.args.join.now) c.args.text.now c.args.at c.requires.1 c.line_from-l.ensures
    (sym (c.if-not-opens_brace.false) ∙ c.opens_brace.ensures) c.requires.0 c.indent_columns-opener.ensures (sym c.if-opens_comment.false ∙ c.opens_comment.ensures)
    (sym c.in-No.is ∙ c.walk_run.ensures)) c.unjoined_run-in-No.ensures in record { value = r.0; join_after = r.1 }

pub returns-else-shallow : goal.returns-else-shallow
returns-else-shallow c = let r = laws.unjoined_told _ _ (laws.told_deep (length c.args.join.now) c.args.text.now c.args.at c.requires.1 c.line_from-l.ensures
    (sym (c.if-not-opens_brace.false) ∙ c.opens_brace.ensures) c.requires.0 c.indent_columns-opener.ensures (sym c.if-opens_comment.false ∙ c.opens_comment.ensures) c.if-shallow.false
    (sym c.in-Block.is ∙ c.walk_run.ensures)) c.unjoined_run-in-Block.ensures in record { value = r.0; join_after = r.1 }
