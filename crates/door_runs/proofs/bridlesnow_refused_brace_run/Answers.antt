use lib.ListN.{length}
use Rattle.run_refused.specs.Refused.{refused_run}
use Rattle.door_shared.proofs.Laws.{told_4}
use Rattle.door_runs.proofs.Says as laws
use borrow.Author.Rules.{rules}
use Rattle.door_runs.proofs.bridlesnow_refused_brace_run.Goals as goal

pub returns : goal.returns
returns c = let r = laws.run_told_lem _ (refused_run (length c.args.join.now) c.args.text.now c.args.line) c.refused_brace_run-run.ensures.value c.refused_brace_run-run.ensures.join_after c.kind_of.ensures c.lines_of.ensures (told_4 _ _ _ _ _ c.tell.ensures c.tell-2.ensures c.tell-3.ensures c.tell-4.ensures) c.answer_number.ensures in record { value = r.0; join_after = r.1.0; told_after = r.1.1 }
