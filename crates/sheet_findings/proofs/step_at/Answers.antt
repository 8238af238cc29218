use mathlib.Core.Path.{refl}
use Rattle.sheet_findings.proofs.Lines as laws
use native.Mathlib.Omega.{arith}
use borrow.Author.Tests.{not-true, not-false}
use borrow.Author.Rules.{rules}
use Rattle.sheet_findings.proofs.step_at.Reads as reads
use Rattle.sheet_findings.proofs.step_at.Lts as lts
use Rattle.block_trimmed_line.proofs.is_indented.Reads as is-indented-reads
use Rattle.block_trimmed_line.proofs.trimmed_line.Reads as trimmed-line-reads
use Rattle.read_blocks.proofs.read_at.Reads as read-at-reads
use Rattle.sheet_findings.proofs.fault_finding.Reads as fault-finding-reads
use Rattle.sheet_findings.proofs.limit_finding.Reads as limit-finding-reads
use Rattle.sheet_findings.proofs.mark_finding.Reads as mark-finding-reads
use Rattle.sheet_findings.proofs.one_line.Reads as one-line-reads
use Rattle.sheet_verdicts.proofs.verdict_of.Reads as verdict-of-reads
use Rattle.sheet_findings.proofs.step_at.Goals as goal

-- src/lib.rt:265:25
pub mark_finding-requires : goal.mark_finding-requires
mark_finding-requires c = (c.requires.0, omega (arith, c.requires.1, laws.front_start c.args.text.now c.args.at c.requires.1 c.trimmed_line-f.ensures))

-- src/lib.rt:265:9
pub returns-then-not-f : goal.returns-then-not-f
returns-then-not-f c = let r = laws.step_text c.args.text.now c.args.at c.args.join.now c.requires.0 c.trimmed_line-f.ensures (not-true _ c.if-not-f.true) c.mark_finding.ensures c.one_line.ensures in record { value = r.0; join_after = r.1 }

-- src/lib.rt:269:9
pub returns-then-block-eq0 : goal.returns-then-block-eq0
returns-then-block-eq0 c = let r = laws.step_fault c.args.text.now c.args.at c.args.join.now c.requires.0 c.trimmed_line-f.ensures
    (not-false _ c.if-not-f.false) c.read_at-block.ensures.value c.read_at-block.ensures.join_after
    c.if-block-eq0.true c.join-1.given c.fault_finding.ensures.value c.fault_finding.ensures.join_after c.one_line-then-block-eq0.ensures in record { value = r.0; join_after = r.1 }

-- src/lib.rt:277:25
pub overflow_sub-f : goal.overflow_sub-f
overflow_sub-f c =
    omega (arith, laws.front_from c.args.text.now c.args.at c.trimmed_line-f.ensures)

-- src/lib.rt:272:9
pub returns-then-is_indented : goal.returns-then-is_indented
returns-then-is_indented c = let r = laws.step_indented c.args.text.now c.args.at c.args.join.now c.requires.0 c.trimmed_line-f.ensures
    (not-false _ c.if-not-f.false) c.read_at-block.ensures.value c.read_at-block.ensures.join_after
    c.if-block-eq0.false c.is_indented.ensures c.if-is_indented.true c.one_line-then-is_indented.ensures in record { value = r.0; join_after = r.1 }

-- src/lib.rt:258:1
pub returns : goal.returns
returns c = let r = laws.step_block c.args.text.now c.args.at c.args.join.now c.requires.0 c.trimmed_line-f.ensures
    (not-false _ c.if-not-f.false) c.read_at-block.ensures.value c.read_at-block.ensures.join_after
    c.if-block-eq0.false c.is_indented.ensures c.if-is_indented.false c.verdict_of.ensures.value c.limit_finding.ensures in record { value = r.0; join_after = r.1 }
