use Rattle.set_items.specs.Inner.{slot_items, item_of}
use borrow.Author.Rules.{rules}
use Rattle.set_items.proofs.slot_item.Goals as goal

pub returns-then-set : goal.returns-then-set
unfolding slot_items
returns-then-set c = rw (c.in-Id.is, c.if-set.true) c.only.ensures

pub returns-else-set : goal.returns-else-set
unfolding slot_items item_of
returns-else-set c = rw (c.in-Id.is, c.if-set.false)

pub returns-in-Class : goal.returns-in-Class
unfolding slot_items
returns-in-Class c = rw c.in-Class.is c.class_item.ensures

pub returns-in-Key : goal.returns-in-Key
unfolding slot_items
returns-in-Key c = rw (c.in-Key.is, ← c.row_at-row.ensures) c.only-in-Key.ensures
