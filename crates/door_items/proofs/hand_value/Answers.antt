use Rattle.door_items.proofs.Said as laws
use Rattle.door_shared.proofs.Laws.{told_4}
use borrow.Author.Rules.{rules}
use Rattle.door_items.proofs.hand_value.Goals as goal

pub returns : goal.returns
returns c =
    let a = c.args in laws.read_value a.text.now a.out.now a.told.now a.read a.n c.check_by-c.ensures c.next_of.ensures c.place_of.ensures
    a.name.now (c.value_at-nth.ensures.count_value, c.value_at-nth.ensures.item_value) (c.lay_value-laid.ensures.value, c.lay_value-laid.ensures.out_after) (told_4 _ _ _ _ _ c.tell.ensures c.tell-2.ensures c.tell-3.ensures c.tell-4.ensures)
    c.outcome_number.ensures
