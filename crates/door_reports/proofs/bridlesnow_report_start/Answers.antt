use lib.ListN.{length}
use Rattle.sheet_report.specs.Parts.{start_of}
use Rattle.door_reports.proofs.Says as laws
use borrow.Author.Rules.{rules}
use Rattle.door_reports.proofs.bridlesnow_report_start.Goals as goal

pub returns : goal.returns
returns c = let r = laws.part_told_lem _ (start_of c.args.text.now (length c.args.join.now) (length c.args.out.now)) c.report_start.ensures.value c.report_start.ensures.join_after c.report_start.ensures.out_after c.say_part.ensures.value c.say_part.ensures.told_after in record { value = r.0; join_after = r.1.0; out_after = r.1.1.0; told_after = r.1.1.1 }
