use Rattle.door_blocks.proofs.Over as laws
use borrow.Author.Rules.{rules}
use Rattle.door_blocks.proofs.bridlesnow_parse_standalone_attrs_block.Goals as goal

pub returns : goal.returns
returns c = laws.block_says _ _ _ _ _ _ c.parse_standalone_attrs_block-block.ensures.value c.parse_standalone_attrs_block-block.ensures.join_after c.say_block.ensures
