use Rattle.sheet_findings.proofs.Lines as laws
use native.Mathlib.Omega.{arith}
use mathlib.Core.Path.{sym}
use Rattle.read_blocks.proofs.Finds.{joined_in_lem, joined_long}
use borrow.Author.Rules.{rules}
use Rattle.sheet_findings.proofs.run_finding.Reads as reads
use Rattle.sheet_findings.proofs.run_finding.Lts as lts
use Rattle.run_lines.proofs.join_run.Reads as join-run-reads
use Rattle.run_refused.proofs.refused_run_at.Reads as refused-run-at-reads
use Rattle.run_stops.proofs.run_stop.Reads as run-stop-reads
use Rattle.sheet_findings.proofs.joined_finding.Reads as joined-finding-reads
use Rattle.sheet_findings.proofs.left_kind.Reads as left-kind-reads
use Rattle.sheet_findings.proofs.stop_finding.Reads as stop-finding-reads
use Rattle.sheet_findings.proofs.run_finding.Goals as goal

-- src/lib.rt:193:62
pub slice_bounds-joined_finding-end : goal.slice_bounds-joined_finding-end
slice_bounds-joined_finding-end c = joined_in_lem c.args.text.now c.args.at 0 c.args.join.now c.join_run-j.ensures.value c.join_run-j.ensures.join_after

-- src/lib.rt:193:62
pub slice_bounds-joined_finding-end-in-Ok : goal.slice_bounds-joined_finding-end-in-Ok
slice_bounds-joined_finding-end-in-Ok c = sym (joined_long c.args.text.now c.args.at 0 c.args.join.now c.join_run-j.ensures.value c.join_run-j.ensures.join_after)

-- src/lib.rt:186:1
pub returns-in-Ok : goal.returns-in-Ok
returns-in-Ok c = let r = laws.run_closed c.args.text.now c.args.at c.args.from c.args.join.now c.join_run-j.ensures.value c.join_run-j.ensures.join_after c.in-Ok.is c.joined_finding.ensures in record { value = r.0; join_after = r.1 }

-- src/lib.rt:186:1
pub returns-in-Err : goal.returns-in-Err
returns-in-Err c = let r = laws.run-stopped c.args.text.now c.args.at c.args.from c.args.join.now c.join_run-j.ensures.value c.join_run-j.ensures.join_after c.in-Err.is c.join-1.given c.run_stop-s.ensures.value c.refused_run_at-r.ensures.value c.refused_run_at-r.ensures.join_after c.left_kind.ensures c.stop_finding.ensures in record { value = r.0; join_after = r.1 }
