use Rattle.door_loose.proofs.Said as laws
use borrow.Author.Rules.{rules}
use Rattle.door_loose.proofs.bridlesnow_consume_loose.Goals as goal

pub returns : goal.returns
returns c = laws.loose_says _ _ _ _ _ _ c.parse_standalone_attrs_block-block.ensures.value c.parse_standalone_attrs_block-block.ensures.join_after c.say_loose.ensures
