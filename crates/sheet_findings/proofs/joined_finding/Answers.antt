use Rattle.sheet_findings.specs.Findings.{joined_finding}
use borrow.Author.Rules.{rules}
use Rattle.sheet_findings.proofs.joined_finding.Reads as reads
use Rattle.sheet_findings.proofs.joined_finding.Lts as lts
use Rattle.run_stops.proofs.source_place.Reads as source-place-reads
use Rattle.sheet_findings.proofs.chain_finding.Reads as chain-finding-reads
use Rattle.sheet_findings.proofs.joined_finding.Goals as goal

-- src/lib.rt:125:1
pub returns : goal.returns
unfolding joined_finding
returns c = rw (c.source_place-s.ensures, c.chain_finding-f.ensures)
