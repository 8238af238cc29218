use Rattle.door_indexes.proofs.Says.{built_said}
use borrow.Author.Rules.{rules}
use Rattle.door_mends.proofs.bridlesnow_index_mend.Goals as goal

pub returns : goal.returns
returns c =
    built_said _ c.mend_index-built.ensures.value c.mend_index-built.ensures.join_after c.mend_index-built.ensures.table_after c.mend_index-built.ensures.out_after c.say_built.ensures.value c.say_built.ensures.told_after
