use Rattle.sheet_findings.proofs.Seeks as laws
use Prim.Native.Nat.{◌-◌}
use lib.ListN.{length}
use native.Mathlib.Omega.{arith}
use borrow.Author.Rules.{rules}
use Rattle.sheet_findings.proofs.next_finding.Reads as reads
use Rattle.sheet_findings.proofs.next_finding.Lts as lts
use Rattle.sheet_findings.proofs.at_once.Reads as at-once-reads
use Rattle.sheet_findings.proofs.is_clear.Reads as is-clear-reads
use Rattle.sheet_findings.proofs.step_at.Reads as step-at-reads
use Rattle.sheet_findings.proofs.next_finding.Given as goal

abbrev pub invariant-lines : goal.invariant-lines
invariant-lines l = laws.Seeks l.text l.at l.initial.join l.join l.skipped l.from

abbrev pub decreases-lines : goal.decreases-lines
decreases-lines l = length l.text - l.from
