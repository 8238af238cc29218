use Rattle.set_columns.specs.Inner.{found_columns}
use borrow.Author.Rules.{rules}
use Rattle.set_columns.proofs.columns_of.Goals as goal

pub returns : goal.returns
unfolding found_columns
returns c = rw (c.widths_in.ensures, c.words_in-leveled.ensures, c.words_in-aligned.ensures, c.empty-none.ensures)
