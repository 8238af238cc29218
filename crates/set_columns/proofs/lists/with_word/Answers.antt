use borrow.Author.Rules.{rules}
use Rattle.set_columns.specs.Inner.{word_by}
use Rattle.set_columns.proofs.lists.with_word.Goals as goal

pub returns-then-vertical : goal.returns-then-vertical
unfolding word_by
returns-then-vertical c = rw (c.if-vertical.true, ← c.valign_of.ensures) c.with_valign.ensures

pub returns : goal.returns
unfolding word_by
returns c = rw (c.if-vertical.false, ← c.align_of.ensures) c.with_align.ensures
