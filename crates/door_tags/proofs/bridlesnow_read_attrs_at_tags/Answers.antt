use Rattle.door_tags.proofs.Said as laws
use borrow.Author.Rules.{rules}
use Rattle.door_tags.proofs.bridlesnow_read_attrs_at_tags.Goals as goal

pub returns : goal.returns
returns c =
    laws.tagged_said_lem c.args.text.now _ _ c.args.place c.tags_of.ensures.value c.mode_of-mode.ensures.value c.read_attrs_at_tags-read.ensures.value c.hand_read.ensures
