use borrow.Author.Rules.{rules}
use Rattle.sheet_findings.proofs.limit_finding.Reads as reads
use Rattle.sheet_findings.proofs.limit_finding.Lts as lts
use Rattle.base_refusals.proofs.number.Reads as number-reads
use Rattle.sheet_findings.proofs.here.Reads as here_reads
use Rattle.sheet_findings.proofs.limit_finding.Goals as goal

-- src/lib.rt:232:1
pub returns-in-Ok : goal.returns-in-Ok
returns-in-Ok c = rw (c.here.ensures, c.in-Ok.is)

-- src/lib.rt:232:1
pub returns-in-Err : goal.returns-in-Err
returns-in-Err c = rw (c.in-Err.is, c.number.ensures)
