use mathlib.Core.Path.{sym, ◌∙◌}
use native.Mathlib.Omega.{arith}
use Rattle.sheet_blocks.proofs.Seeks as laws
use Rattle.sheet_blocks.proofs.NextNumbers.{said, next_no}
use Rattle.sheet_blocks.proofs.next_block.Goals as goal
use Rattle.sheet_blocks.proofs.next_block.Goals.{then-may_open+else-block-ne0, else-may_open}

pub returns-then-text-gt-MAX_TEXT : goal.returns-then-text-gt-MAX_TEXT
returns-then-text-gt-MAX_TEXT c = said (next_no _ _ _) (rw c.at_once.ensures (laws.too_long_lem _ _ _ c.if-text-gt-MAX_TEXT.true (c.read_at-block.ensures.value, c.read_at-block.ensures.join_after)))

pub returns-then-join-lt-MAX_TEXT : goal.returns-then-join-lt-MAX_TEXT
returns-then-join-lt-MAX_TEXT c = said (next_no _ _ _) (laws.too_short _ _ _ c.if-text-gt-MAX_TEXT.false c.if-join-lt-MAX_TEXT.true (c.read_at-block-then-join-lt-MAX_TEXT.ensures.value, c.read_at-block-then-join-lt-MAX_TEXT.ensures.join_after) c.short_join.ensures)

pub loop-from-init : goal.loop-from-init
loop-from-init c = laws.seeks_start _ _ _ c.if-text-gt-MAX_TEXT.false c.if-join-lt-MAX_TEXT.false

pub returns-then-block-ne0 : goal.returns-then-block-ne0
returns-then-block-ne0 c =
    said (next_no _ _ _) (laws.seeks_block c.loop-from.invariant c.loop-from-test.true (sym c.may_open.ensures ∙ c.if-may_open.true) (c.read_at-block-then-may_open.ensures.value, c.read_at-block-then-may_open.ensures.join_after) (λ z. omega (arith, z, c.if-block-ne0.true)))

pub loop-from-smaller : goal.loop-from-smaller
loop-from-smaller c = laws.seeks_less c.loop-from.invariant c.loop-from-test.true c.line_from-l.ensures

pub loop-from-preserved : goal.loop-from-preserved
loop-from-preserved c =
    elim c.if-may_open.branch [
      | then-may_open+else-block-ne0 w ↦
          rw w.join-is
          (laws.seeks_past c.loop-from.invariant c.loop-from-test.true (sym c.may_open.ensures ∙ w.if-may_open.true)
          (w.read_at-block-then-may_open.ensures.value, w.read_at-block-then-may_open.ensures.join_after) (omega (arith, w.if-block-ne0.false)) c.line_from-l.ensures)
      | else-may_open w ↦ rw w.join-is (laws.seeks_prose c.loop-from.invariant c.loop-from-test.true c.line_from-l.ensures (sym c.may_open.ensures ∙ w.if-may_open.false))
    ]

pub returns : goal.returns
returns c = said (next_no _ _ _) (rw c.at_once-2.ensures (laws.seeks_end c.loop-from.invariant c.loop-from-test.false (c.read_at-block-2.ensures.value, c.read_at-block-2.ensures.join_after)))
