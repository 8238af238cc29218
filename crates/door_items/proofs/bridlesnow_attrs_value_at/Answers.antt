use Rattle.door_items.proofs.Said as laws
use borrow.Author.Rules.{rules}
use Rattle.door_items.proofs.bridlesnow_attrs_value_at.Goals as goal

pub returns : goal.returns
returns c =
    let a = c.args in laws.brace_value_lem a.text.now _ _ a.place a.n c.mode_of.ensures.value c.read_attrs_at_with-read.ensures.value a.name.now c.hand_value.ensures
