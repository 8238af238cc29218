use Rattle.sheet_findings.specs.Findings.{open_finding}
use borrow.Author.Rules.{rules}
use Rattle.sheet_findings.proofs.open_finding.Reads as reads
use Rattle.sheet_findings.proofs.open_finding.Lts as lts
use Rattle.run_stops.proofs.quote_left.Reads as quote-left-reads
use Rattle.sheet_findings.proofs.here.Reads as here_reads
use Rattle.sheet_findings.proofs.open_finding.Goals as goal

-- src/lib.rt:103:1
pub returns-in-None : goal.returns-in-None
unfolding open_finding
returns-in-None c = rw (c.here.ensures, ← c.quote_left.ensures.value, c.in-None.is)

-- src/lib.rt:103:1
pub returns-in-Some : goal.returns-in-Some
unfolding open_finding
returns-in-Some c = rw (c.here-in-Some.ensures, ← c.quote_left.ensures.value, c.in-Some.is)
