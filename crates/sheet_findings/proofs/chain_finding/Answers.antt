use Rattle.std.specs.Prelude.{Some}
use Rattle.sheet_findings.specs.Findings.{chain_finding}
use borrow.Author.Rules.{rules}
use Rattle.sheet_findings.proofs.chain_finding.Reads as reads
use Rattle.sheet_findings.proofs.chain_finding.Lts as lts
use Rattle.block_faults.proofs.chain_fault.Reads as chain-fault-reads
use Rattle.sheet_findings.proofs.here.Reads as here_reads
use Rattle.sheet_findings.proofs.open_finding.Reads as open-finding-reads
use Rattle.sheet_findings.proofs.chain_finding.Goals as goal

-- src/lib.rt:113:1
pub returns-in-None : goal.returns-in-None
unfolding chain_finding
returns-in-None c = rw (c.here.ensures, ← c.chain_fault.ensures.value, c.in-None.is)

-- src/lib.rt:113:1
pub returns-in-Some-Behind : goal.returns-in-Some-Behind
unfolding chain_finding
returns-in-Some-Behind c = let e = (rw c.in-Some-Behind.field-0-is at c.in-Some-Behind.ensures.value) in rw (c.here-in-Some-Behind.ensures, ← e)

-- src/lib.rt:113:1
pub returns-in-Some-Open : goal.returns-in-Some-Open
unfolding chain_finding
returns-in-Some-Open c = let e = (rw c.in-Some-Open.field-0-is at c.in-Some-Open.ensures.value) in rw (c.open_finding.ensures, ← e)

-- src/lib.rt:113:1
pub returns-in-Some-Wrong : goal.returns-in-Some-Wrong
unfolding chain_finding
returns-in-Some-Wrong c = let e = (rw c.in-Some-Wrong.field-0-is at c.in-Some-Wrong.ensures.value) in rw (c.here-in-Some-Wrong.ensures, ← e)
