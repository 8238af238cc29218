use Rattle.door_items.proofs.Said as laws
use Rattle.door_shared.proofs.Laws.{told_5}
use borrow.Author.Rules.{rules}
use Rattle.door_items.proofs.hand_item.Goals as goal

pub returns : goal.returns
returns c =
    let a = c.args in laws.read_item a.text.now a.out.now a.told.now a.read a.n c.check_by-c.ensures c.next_of.ensures c.place_of.ensures (c.item_at-nth.ensures.count_value, c.item_at-nth.ensures.item_value)
    (c.lay_item-laid.ensures.value, c.lay_item-laid.ensures.out_after) (told_5 _ _ _ _ _ _ c.tell.ensures c.tell-2.ensures c.tell-3.ensures c.tell-4.ensures c.tell-5.ensures)
    c.outcome_number.ensures
