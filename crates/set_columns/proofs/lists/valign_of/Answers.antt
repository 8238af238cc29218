use mathlib.Core.Path.{sym, ◌∙◌}
use Rattle.set_columns.specs.Columns.{valign_of}
use borrow.Author.Rules.{rules}
use Rattle.set_columns.proofs.lists.valign_of.Goals as goal

pub returns-then-is_word : goal.returns-then-is_word
unfolding valign_of
returns-then-is_word c = rw (sym c.is_word.ensures ∙ c.if-is_word.true)

pub returns-then-is_word-2 : goal.returns-then-is_word-2
unfolding valign_of
returns-then-is_word-2 c = rw (sym c.is_word.ensures ∙ c.if-is_word.false, sym c.is_word-2.ensures ∙ c.if-is_word-2.true)

pub returns-then-is_word-3 : goal.returns-then-is_word-3
unfolding valign_of
returns-then-is_word-3 c = rw (sym c.is_word.ensures ∙ c.if-is_word.false, sym c.is_word-2.ensures ∙ c.if-is_word-2.false, sym c.is_word-3.ensures ∙ c.if-is_word-3.true)

pub returns : goal.returns
unfolding valign_of
returns c = rw (sym c.is_word.ensures ∙ c.if-is_word.false, sym c.is_word-2.ensures ∙ c.if-is_word-2.false, sym c.is_word-3.ensures ∙ c.if-is_word-3.false)
