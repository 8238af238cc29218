use mathlib.Core.Path.{◌∙◌}
use borrow.Author.Tests.{not-true, not-false}
use Rattle.block_trimmed_line.proofs.Trimmed.{opens_by}
use Rattle.read_blocks.proofs.Finds as laws
use Rattle.read_blocks.proofs.BlockNumbers.{said, sized-wrapped_no}
use borrow.Author.Rules.{rules}
use Rattle.read_blocks.proofs.wrapped_at.Goals as goal

pub returns-then-text-gt-MAX_TEXT : goal.returns-then-text-gt-MAX_TEXT
returns-then-text-gt-MAX_TEXT c = said (sized-wrapped_no _ _ _ _) (laws.read_by _ _ _ (laws.sized_long _ _ c.if-text-gt-MAX_TEXT.true) (laws.none_read _ _ c.no_block.ensures.value) (laws.none_holds _ _))

pub returns-then-not-f : goal.returns-then-not-f
returns-then-not-f c = said (sized-wrapped_no _ _ _ _) (laws.read_by _ _ _ (laws.sized_is _ _ c.if-text-gt-MAX_TEXT.false ∙ laws.wrapped_none _ _ _ _ (opens_by _ _ c.trimmed_line-f.ensures (not-true _ c.if-not-f.true))) (laws.none_read _ _ c.no_block-then-not-f.ensures.value) (laws.none_holds _ _))

pub returns : goal.returns
returns c =
    said (sized-wrapped_no _ _ _ _) (laws.read_by _ _ _ (laws.sized_is _ _ c.if-text-gt-MAX_TEXT.false ∙ laws.wrapped-run _ _ _ _ (opens_by _ _ c.trimmed_line-f.ensures (not-false _ c.if-not-f.false))) c.read_run.ensures.value c.read_run.ensures.join_after)
