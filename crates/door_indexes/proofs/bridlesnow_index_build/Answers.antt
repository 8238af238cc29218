use Rattle.door_indexes.proofs.Says.{built_said}
use borrow.Author.Rules.{rules}
use Rattle.door_indexes.proofs.bridlesnow_index_build.Goals as goal

pub returns : goal.returns
returns c = built_said _ (c.build_index.ensures.value) (c.build_index.ensures.join_after) (c.build_index.ensures.table_after) (c.build_index.ensures.out_after) (c.say_built.ensures.value) (c.say_built.ensures.told_after)
