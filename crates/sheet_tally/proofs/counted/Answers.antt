use Rattle.sheet_tally.proofs.Steps as laws
use Rattle.sheet_tally.proofs.Counting as counting
use Rattle.sheet_tally.proofs.Lows.{low_run, low_more, low_refused}
use Rattle.sheet_tally.specs.Inner.{max_count, line_most}
use Rattle.base_refusals.specs.Numbers.{max_text}
use Prim.Native.Nat.{◌+◌}
use native.Mathlib.Omega.{arith}
use borrow.Author.Rules.{rules}
use Rattle.sheet_tally.proofs.counted.Goals as goal

pub with_run-t-requires : goal.with_run-t-requires
with_run-t-requires c =
    let low = counting.joined_low c.args.text.now c.args.at c.args.block.lookahead c.lines_within-joined.ensures c.requires.text_len_bound.0 in record { low = c.requires.low; joined_le_max_text = (omega (arith, low, c.requires.text_len_bound.1), omega (arith, low, c.requires.text_len_bound.1)) }

pub returns-then-block-eq0 : goal.returns-then-block-eq0
returns-then-block-eq0 c = record { value = laws.tried_none c.args.block c.lines_within-joined.ensures c.args.totals.numbers c.with_run-t.ensures _ c.if-block-eq0.true; lows = λ k h. low_more (low_run h c.lines_within-joined.result c.args.block.lookahead max_text (counting.joined_low c.args.text.now c.args.at c.args.block.lookahead c.lines_within-joined.ensures c.requires.text_len_bound.0) c.requires.text_len_bound.1.0 c.with_run-t.ensures) (k + line_most) (omega arith) }

pub with_printed-requires : goal.with_printed-requires
with_printed-requires c = low_more (low_run c.requires.low c.lines_within-joined.result c.args.block.lookahead max_text (counting.joined_low c.args.text.now c.args.at c.args.block.lookahead c.lines_within-joined.ensures c.requires.text_len_bound.0) c.requires.text_len_bound.1.0 c.with_run-t.ensures) (max_count + max_text + max_text) (omega arith)

pub with_refused-requires : goal.with_refused-requires
with_refused-requires c = low_more (low_run c.requires.low c.lines_within-joined.result c.args.block.lookahead max_text (counting.joined_low c.args.text.now c.args.at c.args.block.lookahead c.lines_within-joined.ensures c.requires.text_len_bound.0) c.requires.text_len_bound.1.0 c.with_run-t.ensures) (max_count + max_text + max_text) (omega arith)

pub returns-in-Ok : goal.returns-in-Ok
returns-in-Ok c = record { value = laws.tried-printed c.args.block c.lines_within-joined.ensures c.args.totals.numbers c.with_run-t.ensures c.if-block-eq0.false c.verdict_of.ensures.value c.in-Ok.is c.with_printed.ensures.value; lows = λ k h. low_more (c.with_printed.ensures.lows (k + max_text) (low_run h c.lines_within-joined.result c.args.block.lookahead max_text (counting.joined_low c.args.text.now c.args.at c.args.block.lookahead c.lines_within-joined.ensures c.requires.text_len_bound.0) c.requires.text_len_bound.1.0 c.with_run-t.ensures)) (k + line_most) (omega (arith, c.requires.text_len_bound.1.1)) }

pub returns-in-Err : goal.returns-in-Err
returns-in-Err c = record { value = laws.tried_refused c.args.block c.lines_within-joined.ensures c.args.totals.numbers c.with_run-t.ensures c.if-block-eq0.false c.verdict_of.ensures.value c.in-Err.is c.with_refused.ensures; lows = λ k h. low_more (low_refused (low_run h c.lines_within-joined.result c.args.block.lookahead max_text (counting.joined_low c.args.text.now c.args.at c.args.block.lookahead c.lines_within-joined.ensures c.requires.text_len_bound.0) c.requires.text_len_bound.1.0 c.with_run-t.ensures) _ c.with_refused.ensures) (k + line_most) (omega arith) }
