use Rattle.sheet_findings.proofs.Seeks as laws
use Prim.Native.Nat.{◌-◌}
use lib.ListN.{length}
use native.Mathlib.Omega.{arith}
use borrow.Author.Rules.{rules}
use Rattle.sheet_findings.proofs.next_finding.Reads as reads
use Rattle.sheet_findings.proofs.next_finding.Lts as lts
use Rattle.sheet_findings.proofs.at_once.Reads as at-once-reads
use Rattle.sheet_findings.proofs.is_clear.Reads as is-clear-reads
use Rattle.sheet_findings.proofs.step_at.Reads as step-at-reads
use Rattle.sheet_findings.proofs.next_finding.Goals as goal

-- src/lib.rt:316:9
pub returns-then-text-gt-MAX_TEXT : goal.returns-then-text-gt-MAX_TEXT
returns-then-text-gt-MAX_TEXT c = laws.said (laws.next_paper _ _ _) (laws.too_long_lem c.args.text.now c.args.at c.args.join.now c.if-text-gt-MAX_TEXT.true c.at_once.ensures)

-- src/lib.rt:319:9
pub returns-then-join-lt-MAX_TEXT : goal.returns-then-join-lt-MAX_TEXT
returns-then-join-lt-MAX_TEXT c = laws.said (laws.next_paper _ _ _) (laws.too_short c.args.text.now c.args.at c.args.join.now c.if-text-gt-MAX_TEXT.false c.if-join-lt-MAX_TEXT.true c.at_once-then-join-lt-MAX_TEXT.ensures)

-- src/lib.rt:323:5
pub lines-init : goal.lines-init
lines-init c = laws.seeks_start _ _ _ c.if-text-gt-MAX_TEXT.false c.if-join-lt-MAX_TEXT.false

-- src/lib.rt:325:13
pub shape_of-join-then-text-from : goal.shape_of-join-then-text-from
shape_of-join-then-text-from c = c.lines.invariant.long

-- src/lib.rt:325:13
pub returns-then-text-from : goal.returns-then-text-from
returns-then-text-from c = laws.said (laws.next_paper _ _ _) (laws.seeks_end c.lines.invariant c.if-text-from.true c.at_once-then-text-from.ensures)

-- src/lib.rt:327:13
pub step_at-step-requires : goal.step_at-step-requires
step_at-step-requires c = (c.lines.invariant.fits, c.if-text-from.false)

-- src/lib.rt:331:13
pub overflow_add-skipped : goal.overflow_add-skipped
overflow_add-skipped c = omega (arith, laws.step_far c.lines.invariant c.if-text-from.false c.step_at-step.ensures.value c.step_at-step.ensures.join_after c.is_clear.ensures, laws.step_in c.lines.invariant c.if-text-from.false c.step_at-step.ensures.value c.step_at-step.ensures.join_after c.is_clear.ensures, c.lines.invariant.fits)

-- src/lib.rt:323:5
pub lines-smaller : goal.lines-smaller
lines-smaller c = laws.step_less c.lines.invariant c.if-text-from.false c.step_at-step.ensures.value c.step_at-step.ensures.join_after c.is_clear.ensures

-- src/lib.rt:323:5
pub lines-preserved : goal.lines-preserved
lines-preserved c = laws.seeks_on c.lines.invariant c.if-text-from.false c.step_at-step.ensures.value c.step_at-step.ensures.join_after c.is_clear.ensures c.if-is_clear.true c.join-1.given

-- src/lib.rt:335:9
pub returns-in-lines : goal.returns-in-lines
returns-in-lines c = laws.said (laws.next_paper _ _ _) (laws.seeks_found c.lines.invariant c.if-text-from.false c.step_at-step.ensures.value c.step_at-step.ensures.join_after c.is_clear.ensures c.if-is_clear.false)
