use mathlib.Core.Path.{sym, ◌∙◌}
use native.Mathlib.Omega.{arith}
use borrow.Author.Tests.{not-true, not-false}
use Rattle.sheet_report.proofs.Entries as entries
use Rattle.sheet_report.proofs.ReportNumbers.{part-said}
use borrow.Author.Rules.{rules}
use Rattle.sheet_report.proofs.report_part.Goals as goal

pub returns-then-text-gt-MAX_TEXT : goal.returns-then-text-gt-MAX_TEXT
returns-then-text-gt-MAX_TEXT c = let a = c.args in part-said a.join.now a.out.now a.text.now a.at a.line (entries.told_nothing _ _ (entries.part_long _ _ _ _ _ (omega (arith, c.if-text-gt-MAX_TEXT.true))) c.refused.ensures)

pub returns-then-join-lt-MAX_TEXT : goal.returns-then-join-lt-MAX_TEXT
returns-then-join-lt-MAX_TEXT c = let a = c.args in part-said a.join.now a.out.now a.text.now a.at a.line (entries.told_nothing _ _ (entries.part_join _ _ _ _ _ (omega (arith, c.if-text-gt-MAX_TEXT.false)) (omega (arith, c.if-join-lt-MAX_TEXT.true))) c.refused-then-join-lt-MAX_TEXT.ensures)

pub returns-then-not-may_begin : goal.returns-then-not-may_begin
returns-then-not-may_begin c =
    let a = c.args in
    part-said a.join.now a.out.now a.text.now a.at a.line (entries.told_nothing _ _ (entries.part-nowhere _ _ _ _ _ (omega (arith, c.if-text-gt-MAX_TEXT.false)) (omega (arith, c.if-join-lt-MAX_TEXT.false)) (sym c.may_begin.ensures ∙ c.if-not-may_begin.true)) c.refused-then-not-may_begin.ensures)

pub returns-then-out-lt-LINE : goal.returns-then-out-lt-LINE
returns-then-out-lt-LINE c =
    let a = c.args in
    part-said a.join.now a.out.now a.text.now a.at a.line (entries.told_nothing _ _ (entries.part_full _ _ _ _ _ (omega (arith, c.if-text-gt-MAX_TEXT.false)) (omega (arith, c.if-join-lt-MAX_TEXT.false)) (sym c.may_begin.ensures ∙ c.if-not-may_begin.false) (omega (arith, c.if-out-lt-LINE.true))) c.refused-then-out-lt-LINE.ensures)

pub lay_from-requires : goal.lay_from-requires
lay_from-requires c =
    let b = entries.begins_so c.args.text.now c.args.at c.args.line (sym c.may_begin.ensures ∙ c.if-not-may_begin.false) in record { text_len_bound = (omega (arith, c.if-text-gt-MAX_TEXT.false), (b.0, b.1.1)); max_text_in_bounds = (omega (arith, c.if-join-lt-MAX_TEXT.false), omega (arith, c.if-out-lt-LINE.false)) }

pub returns : goal.returns
returns c =
    part-said c.args.join.now c.args.out.now c.args.text.now c.args.at c.args.line
    (entries.told_by c.args.join.now c.args.out.now (entries.part_lays _ _ _ _ _ (omega (arith, c.if-text-gt-MAX_TEXT.false)) (omega (arith, c.if-join-lt-MAX_TEXT.false)) (sym c.may_begin.ensures ∙ c.if-not-may_begin.false) (omega (arith, c.if-out-lt-LINE.false))) (c.lay_from.ensures.value, (c.lay_from.ensures.join_after, c.lay_from.ensures.out_after)))
