use Rattle.sheet_findings.proofs.Lines as laws
use native.Mathlib.Omega.{arith}
use borrow.Author.Tests.{not-true, not-false}
use borrow.Author.Rules.{rules}
use Rattle.sheet_findings.proofs.mark_finding.Reads as reads
use Rattle.sheet_findings.proofs.mark_finding.Lts as lts
use Rattle.base_lists.proofs.same_bytes.Reads as same-bytes-reads
use Rattle.block_trimmed_line.proofs.trimmed_line.Reads as trimmed-line-reads
use Rattle.set_table.proofs.bytes_of.Reads as bytes-of-reads
use Rattle.sheet_findings.proofs.here.Reads as here_reads
use Rattle.sheet_findings.proofs.mark_finding.Goals as goal

-- src/lib.rt:222:9
pub returns-then-not-same_bytes : goal.returns-then-not-same_bytes
returns-then-not-same_bytes c = laws.mark_none c.args.text.now c.args.at c.bytes_of.ensures c.same_bytes.ensures (c.if-not-same_bytes.true) c.here.ensures

-- src/lib.rt:226:9
pub returns-then-f : goal.returns-then-f
returns-then-f c = laws.mark_brace c.args.text.now c.args.at c.bytes_of.ensures c.same_bytes.ensures (c.if-not-same_bytes.false) c.trimmed_line-f.ensures c.if-f.true c.here-then-f.ensures

-- src/lib.rt:216:1
pub returns : goal.returns
returns c = laws.mark-text c.args.text.now c.args.at c.bytes_of.ensures c.same_bytes.ensures (c.if-not-same_bytes.false) c.trimmed_line-f.ensures c.if-f.false c.here-2.ensures
