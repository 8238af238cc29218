use Rattle.door_merged.proofs.Said as laws
use borrow.Author.Rules.{rules}
use Rattle.door_merged.proofs.bridlesnow_merge_blocks.Goals as goal

pub returns : goal.returns
returns c = laws.merge_says _ _ _ _ _ _ _ c.parse_standalone_attrs_block-first.ensures.value c.parse_standalone_attrs_block-first.ensures.join_after
    c.parse_standalone_attrs_block-second.ensures.value c.parse_standalone_attrs_block-second.ensures.join_after c.say_merged.ensures
