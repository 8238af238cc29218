use Rattle.door_lengths.proofs.Says as laws
use borrow.Author.Rules.{rules}
use Rattle.door_lengths.proofs.bridlesnow_standalone_attrs_block_len.Goals as goal

pub returns : goal.returns
returns c = let r = laws.length_says _ _ _ _ _ c.standalone_attrs_block_len.ensures.value c.standalone_attrs_block_len.ensures.join_after c.say_length.ensures.value c.say_length.ensures.told_after in record { value = r.0; join_after = r.1.0; told_after = r.1.1 }
