use mathlib.Core.Path.{refl, sym, ◌∙◌}
use mathlib.Core.Logic.{inl, inr}
use native.Mathlib.Omega.{arith}
use borrow.Author.Tests.{not-true, not-false}
use Rattle.run_refused.proofs.Walking.{line_in}
use Rattle.run_endings.proofs.Upwards as laws
use borrow.Author.Rules.{rules}
use Rattle.run_endings.proofs.ends_in.Goals as goal

pub returns-then-text-eq0 : goal.returns-then-text-eq0
returns-then-text-eq0 c = record { value = rw (laws.ends_empty c.args.text.now c.args.join.now c.if-text-eq0.true) (c.ended.ensures); join_after = rw (laws.ends_empty c.args.text.now c.args.join.now c.if-text-eq0.true) (refl) }

pub line_start-at-requires : goal.line_start-at-requires
line_start-at-requires c = (omega (arith, c.if-text-eq0.false), (omega arith, inr (inl refl)))

pub slice_bounds-contains_close-count : goal.slice_bounds-contains_close-count
slice_bounds-contains_close-count c = omega (arith, line_in c.args.text.now _ (c.line_start-at.ensures.below) (c.line_from-l.ensures))

pub slice_bounds-contains_close-start : goal.slice_bounds-contains_close-start
slice_bounds-contains_close-start c = omega (arith, line_in c.args.text.now _ (c.line_start-at.ensures.below) (c.line_from-l.ensures))

pub slice_bounds-contains_close-end : goal.slice_bounds-contains_close-end
slice_bounds-contains_close-end c = omega (arith, line_in c.args.text.now _ (c.line_start-at.ensures.below) (c.line_from-l.ensures))

pub returns-then-not-contains_close : goal.returns-then-not-contains_close
returns-then-not-contains_close c = record { value = rw (laws.ends_none c.args.text.now c.args.join.now c.line_start-at.ensures c.line_from-l.ensures (sym (c.if-not-contains_close.true) ∙ c.contains_close.ensures)) (c.ended-then-not-contains_close.ensures); join_after = rw (laws.ends_none c.args.text.now c.args.join.now c.line_start-at.ensures c.line_from-l.ensures (sym (c.if-not-contains_close.true) ∙ c.contains_close.ensures)) (refl) }

pub slice_bounds-closes_comment-count : goal.slice_bounds-closes_comment-count
slice_bounds-closes_comment-count c = omega (arith, line_in c.args.text.now _ c.line_start-at.ensures.below c.line_from-l.ensures)

pub slice_bounds-closes_comment-start : goal.slice_bounds-closes_comment-start
slice_bounds-closes_comment-start c =
    omega (arith, line_in c.args.text.now _ c.line_start-at.ensures.below c.line_from-l.ensures)

pub slice_bounds-closes_comment-end : goal.slice_bounds-closes_comment-end
slice_bounds-closes_comment-end c =
    omega (arith, line_in c.args.text.now _ c.line_start-at.ensures.below c.line_from-l.ensures)

pub returns : goal.returns
returns c = record { value = rw (laws.ends_search c.args.text.now c.args.join.now c.line_start-at.ensures c.line_from-l.ensures (sym (c.if-not-contains_close.false) ∙ c.contains_close.ensures) c.closes_comment-again.ensures) (c.search_back.ensures.value); join_after = rw (laws.ends_search c.args.text.now c.args.join.now c.line_start-at.ensures c.line_from-l.ensures (sym (c.if-not-contains_close.false) ∙ c.contains_close.ensures) c.closes_comment-again.ensures) (c.search_back.ensures.join_after) }
