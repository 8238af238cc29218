use Rattle.door_blocks.proofs.Over as laws
use borrow.Author.Rules.{rules}
use Rattle.door_blocks.proofs.bridlesnow_read_block_at.Goals as goal

pub returns : goal.returns
returns c = laws.block_says _ _ _ _ _ _ c.read_in-block.ensures.value c.read_in-block.ensures.join_after c.say_block.ensures
