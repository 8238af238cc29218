use Rattle.set_columns.proofs.Tables as laws
use mathlib.Core.Path.{◌∙◌}
use Rattle.set_columns.specs.Inner.{found_pieces}
use borrow.Author.Rules.{rules}
use Rattle.set_columns.proofs.count_of.Goals as goal

pub returns-in-None : goal.returns-in-None
unfolding found_pieces
returns-in-None c = rw c.in-None.is

pub returns-in-Some : goal.returns-in-Some
unfolding found_pieces
returns-in-Some c = rw c.in-Some.is (c.piece_count.ensures ∙ laws.value_count _ _ c.is_quoted.ensures c.raw_bytes.ensures.0)
