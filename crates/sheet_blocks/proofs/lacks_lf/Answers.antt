use Rattle.sheet_blocks.proofs.Tries.{lf_none, lf_is}
use borrow.Author.Rules.{rules}
use Rattle.sheet_blocks.proofs.lacks_lf.Goals as goal

pub returns-then-text-at : goal.returns-then-text-at
returns-then-text-at c = lf_none _ _ c.if-text-at.true

pub returns : goal.returns
returns c = lf_is _ _ c.if-text-at.false
