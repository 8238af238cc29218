use borrow.Author.Rules.{rules}
use Rattle.set_exchange.proofs.other_row.Goals as goal

pub returns-in-Range : goal.returns-in-Range
returns-in-Range c = rw (c.other.ensures, c.other_value-value.ensures, c.in-Range.is)

pub returns-in-Lang : goal.returns-in-Lang
returns-in-Lang c = rw (c.other_value-value.ensures, c.in-Lang.is)
