use mathlib.Core.Path.{◌∙◌}
use borrow.Author.Tests.{not-true, not-false}
use Rattle.block_trimmed_line.proofs.Trimmed.{opens_by, closes_by}
use Rattle.read_blocks.proofs.Finds as laws
use Rattle.read_blocks.proofs.Wraps.{open_run}
use Rattle.read_blocks.proofs.BlockNumbers.{said, sized_no}
use borrow.Author.Rules.{rules}
use Rattle.read_blocks.proofs.read_at.Goals as goal

pub returns-then-text-gt-MAX_TEXT : goal.returns-then-text-gt-MAX_TEXT
returns-then-text-gt-MAX_TEXT c = said (sized_no _ _ _ _) (laws.read_by _ _ _ (laws.sized_long _ _ c.if-text-gt-MAX_TEXT.true) (laws.none_read _ _ c.no_block.ensures.value) (laws.none_holds _ _))

pub returns-then-not-f : goal.returns-then-not-f
returns-then-not-f c = said (sized_no _ _ _ _) (laws.read_by _ _ _ (laws.sized_is _ _ c.if-text-gt-MAX_TEXT.false ∙ laws.found_none _ _ _ _ (opens_by _ _ c.trimmed_line-f.ensures (not-true _ c.if-not-f.true))) (laws.none_read _ _ c.no_block-then-not-f.ensures.value) (laws.none_holds _ _))

pub returns-then-not-f-2 : goal.returns-then-not-f-2
returns-then-not-f-2 c =
    said (sized_no _ _ _ _) (laws.read_by _ _ _ (laws.sized_is _ _ c.if-text-gt-MAX_TEXT.false ∙ open_run _ _ _ _ c.trimmed_line-f.ensures (opens_by _ _ c.trimmed_line-f.ensures (not-false _ c.if-not-f.false)) (closes_by _ _ c.trimmed_line-f.ensures (not-true _ c.if-not-f-2.true))) c.read_run.ensures.value c.read_run.ensures.join_after)

pub returns-then-is_unread : goal.returns-then-is_unread
returns-then-is_unread c =
    said (sized_no _ _ _ _) (laws.read_by _ _ _ (laws.sized_is _ _ c.if-text-gt-MAX_TEXT.false ∙ laws.found_shut _ _ _ _ c.trimmed_line-f.ensures (opens_by _ _ c.trimmed_line-f.ensures (not-false _ c.if-not-f.false))
    (laws.good_by _ _ _ c.if-text-gt-MAX_TEXT.false c.fill_chain-filled.ensures.value c.is_unread.ensures c.if-is_unread.true)
    (closes_by _ _ c.trimmed_line-f.ensures (not-false _ c.if-not-f-2.false))) (laws.none_read _ _ c.no_block-then-is_unread.ensures.value) (laws.none_holds _ _))

pub returns : goal.returns
returns c =
    said (sized_no _ _ _ _) (laws.read_by _ _ _ (laws.sized_is _ _ c.if-text-gt-MAX_TEXT.false ∙ laws.found_line _ _ _ _ c.trimmed_line-f.ensures (opens_by _ _ c.trimmed_line-f.ensures (not-false _ c.if-not-f.false))
    (laws.good_by _ _ _ c.if-text-gt-MAX_TEXT.false c.fill_chain-filled.ensures.value c.is_unread.ensures c.if-is_unread.false))
    (laws.line_read _ _ c.trimmed_line-f.ensures c.fill_chain-filled.ensures.value c.block_of.ensures) (laws.line_holds _))
