use Rattle.run_endings.specs.Endings.{ends_in}
use Rattle.door_shared.proofs.Laws.{told_2}
use Rattle.door_runs.proofs.Says as laws
use borrow.Author.Rules.{rules}
use Rattle.door_runs.proofs.bridlesnow_ends_in_refused_brace_run.Goals as goal

pub returns : goal.returns
returns c = let r = laws.ends_told_lem _ (ends_in c.args.join.now c.args.text.now) c.ends_in_refused_brace_run-run.ensures.value c.ends_in_refused_brace_run-run.ensures.join_after c.ends_kind.ensures (told_2 _ _ _ c.tell.ensures c.tell-2.ensures) c.ends_number.ensures in record { value = r.0; join_after = r.1.0; told_after = r.1.1 }
