use Rattle.sheet_findings.proofs.Lines as laws
use native.Mathlib.Omega.{arith}
use borrow.Author.Tests.{not-true, not-false}
use mathlib.Core.Path.{sym}
use lib.Seq.{length-take-le}
use borrow.Author.Rules.{rules}
use Rattle.sheet_findings.proofs.fault_finding.Reads as reads
use Rattle.sheet_findings.proofs.fault_finding.Lts as lts
use Rattle.sheet_findings.proofs.chain_finding.Reads as chain-finding-reads
use Rattle.sheet_findings.proofs.run_finding.Reads as run-finding-reads
use Rattle.sheet_findings.proofs.fault_finding.Goals as goal

-- src/lib.rt:210:30
pub slice_bounds-chain_finding-end : goal.slice_bounds-chain_finding-end
slice_bounds-chain_finding-end c = sym (length-take-le _ c.args.text.now (laws.front_in c.args.text.now c.args.at c.requires.1 c.requires.0))

-- src/lib.rt:210:9
pub returns-then-f : goal.returns-then-f
returns-then-f c = let r = laws.fault_closed c.args.text.now c.args.at c.args.join.now c.requires.0 c.if-f.true c.chain_finding.ensures in record { value = r.0; join_after = r.1 }

-- src/lib.rt:204:1
pub returns : goal.returns
returns c = let r = laws.fault_open c.args.text.now c.args.at c.args.join.now c.requires.0 c.if-f.false c.run_finding.ensures.value c.run_finding.ensures.join_after in record { value = r.0; join_after = r.1 }
