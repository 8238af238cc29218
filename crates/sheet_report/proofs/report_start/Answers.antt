use Rattle.sheet_report.proofs.Entries as entries
use Rattle.sheet_report.proofs.ReportNumbers.{start-said}
use borrow.Author.Rules.{rules}
use Rattle.sheet_report.proofs.report_start.Goals as goal

pub returns-in-Err : goal.returns-in-Err
returns-in-Err c =
    start-said c.args.join.now c.args.out.now c.args.text.now (entries.start_refused c.args.text.now c.args.join.now c.args.out.now c.check_text.ensures.value c.in-Err.is (c.lay_refusal.ensures.value, c.lay_refusal.ensures.out_after))

pub returns-in-Ok : goal.returns-in-Ok
returns-in-Ok c =
    start-said c.args.join.now c.args.out.now c.args.text.now
    (entries.told_by c.args.join.now c.args.out.now (entries.start-passed c.args.text.now c.args.join.now c.args.out.now c.check_text.ensures.value c.in-Ok.is) (c.report_part.ensures.value, (c.report_part.ensures.join_after, c.report_part.ensures.out_after)))
