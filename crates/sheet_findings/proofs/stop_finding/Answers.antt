use Rattle.sheet_findings.specs.Findings.{stop_finding}
use borrow.Author.Rules.{rules}
use Rattle.sheet_findings.proofs.stop_finding.Reads as reads
use Rattle.sheet_findings.proofs.stop_finding.Lts as lts
use Rattle.sheet_findings.proofs.here.Reads as here_reads
use Rattle.sheet_findings.proofs.stop_finding.Goals as goal

-- src/lib.rt:152:1
pub returns-in-End : goal.returns-in-End
unfolding stop_finding
returns-in-End c = rw (c.here.ensures, c.in-End.is)

-- src/lib.rt:152:1
pub returns-in-Blank : goal.returns-in-Blank
unfolding stop_finding
returns-in-Blank c = rw c.in-Blank.is

-- src/lib.rt:152:1
pub returns-in-Quoted : goal.returns-in-Quoted
unfolding stop_finding
returns-in-Quoted c = rw c.in-Quoted.is

-- src/lib.rt:152:1
pub returns-in-Left : goal.returns-in-Left
unfolding stop_finding
returns-in-Left c = rw c.in-Left.is

-- src/lib.rt:152:1
pub returns-in-Entries : goal.returns-in-Entries
unfolding stop_finding
returns-in-Entries c = rw c.in-Entries.is
