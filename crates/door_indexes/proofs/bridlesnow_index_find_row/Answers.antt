use Rattle.door_indexes.proofs.Says.{found-said}
use borrow.Author.Rules.{rules}
use Rattle.door_indexes.proofs.bridlesnow_index_find_row.Goals as goal

pub returns : goal.returns
returns c = found-said _ (c.find_row.ensures.value) (c.say_found.ensures.value) (c.say_found.ensures.told_after)
