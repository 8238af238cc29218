use Rattle.door_items.proofs.Said as laws
use mathlib.Core.Path.{ap}
use Rattle.set_table.specs.Types.{two}
use borrow.Author.Rules.{rules}
use Rattle.door_items.proofs.say_item.Goals as goal

pub returns : goal.returns
returns c =
    let a = c.args in laws.block_item a.out.now a.told.now a.block a.n (ap (two a.text.now) c.bytes_of-joined.ensures) (c.item_at-nth.ensures.count_value, c.item_at-nth.ensures.item_value) (c.lay_item-laid.ensures.value, c.lay_item-laid.ensures.out_after)
    (laws.told_7 _ _ _ _ _ _ _ _ c.tell.ensures c.tell-2.ensures c.tell-3.ensures c.tell-4.ensures c.tell-5.ensures c.tell-6.ensures c.tell-7.ensures)
    c.outcome_number.ensures
