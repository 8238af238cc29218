use Rattle.door_indexes.proofs.Says.{counted-said}
use borrow.Author.Rules.{rules}
use Rattle.door_indexes.proofs.bridlesnow_index_read.Goals as goal

pub returns : goal.returns
returns c = counted-said _ (c.read_index.ensures.value) (c.read_index.ensures.table_after) (c.say_counted.ensures.value) (c.say_counted.ensures.told_after)
