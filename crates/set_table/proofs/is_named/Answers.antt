use Rattle.set_table.specs.Types.{name_bytes}
use borrow.Author.Rules.{rules}
use Rattle.set_table.proofs.is_named.Goals as goal

pub returns-in-Range : goal.returns-in-Range
unfolding name_bytes
returns-in-Range c = rw (c.in-Range.is, ← c.range_of.ensures) c.same_by_last.ensures

pub returns-in-Lang : goal.returns-in-Lang
unfolding name_bytes
returns-in-Lang c = rw c.in-Lang.is c.same_by_last-in-Lang.ensures
