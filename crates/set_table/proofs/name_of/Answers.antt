use Rattle.set_table.specs.Types.{name_bytes}
use borrow.Author.Rules.{rules}
use Rattle.set_table.proofs.name_of.Goals as goal

pub returns-in-Range : goal.returns-in-Range
unfolding name_bytes
returns-in-Range c = rw c.in-Range.is c.range_of.ensures

pub returns-in-Lang : goal.returns-in-Lang
unfolding name_bytes
returns-in-Lang c = rw c.in-Lang.is c.requires
