use Rattle.door_sets.proofs.Said as laws
use borrow.Author.Rules.{rules}
use Rattle.door_sets.proofs.bridlesnow_read_attrs_at.Goals as goal

pub returns : goal.returns
returns c =
    laws.brace_said_lem c.args.text.now _ _ c.args.place c.mode_of.ensures.value c.read_attrs_at_with-read.ensures.value c.hand_read.ensures
