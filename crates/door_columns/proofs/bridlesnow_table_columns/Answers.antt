use Rattle.door_columns.proofs.Said as laws
use borrow.Author.Rules.{rules}
use Rattle.door_columns.proofs.bridlesnow_table_columns.Goals as goal

pub returns : goal.returns
returns c = laws.columns_says _ _ _ _ _ _ c.parse_standalone_attrs_block-block.ensures.value c.parse_standalone_attrs_block-block.ensures.join_after c.say_columns.ensures
