use Rattle.set_columns.proofs.Tables as laws
use mathlib.Core.Path.{◌∙◌}
use Rattle.set_columns.specs.Inner.{laid_on}
use Rattle.set_columns.specs.Inner.{word_by, found_pieces}
use borrow.Author.Rules.{rules}
use Rattle.set_columns.proofs.words_in.Goals as goal

pub returns-in-None : goal.returns-in-None
unfolding found_pieces laid_on
returns-in-None c = rw c.in-None.is

pub returns-in-Some : goal.returns-in-Some
unfolding found_pieces
returns-in-Some c = rw c.in-Some.is (c.words_over.ensures ∙ laws.value_laid _ _ c.is_quoted.ensures c.raw_bytes.ensures.0 (word_by _) _)
