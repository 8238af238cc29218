use Rattle.door_items.proofs.Said as laws
use borrow.Author.Rules.{rules}
use Rattle.door_items.proofs.bridlesnow_item_at.Goals as goal

pub returns : goal.returns
returns c = laws.line_item _ _ _ _ _ _ _ c.parse_standalone_attrs_block-block.ensures.value c.parse_standalone_attrs_block-block.ensures.join_after c.say_item.ensures
