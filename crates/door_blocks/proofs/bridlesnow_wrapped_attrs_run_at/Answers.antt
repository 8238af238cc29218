use Rattle.door_blocks.proofs.Over as laws
use borrow.Author.Rules.{rules}
use Rattle.door_blocks.proofs.bridlesnow_wrapped_attrs_run_at.Goals as goal

pub returns : goal.returns
returns c = laws.block_says _ _ _ _ _ _ c.wrapped_attrs_run_at-block.ensures.value c.wrapped_attrs_run_at-block.ensures.join_after c.say_block.ensures
