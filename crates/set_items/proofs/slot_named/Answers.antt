use Rattle.set_table.specs.Rows.{slot_entry, rows_in}
use Rattle.set_items.specs.Inner.{slot_named}
use borrow.Author.Rules.{rules}
use Rattle.set_items.proofs.slot_named.Goals as goal

pub returns-in-Id : goal.returns-in-Id
unfolding slot_named slot_entry rows_in
returns-in-Id c = rw c.in-Id.is c.same_bytes.ensures

pub returns-in-Class : goal.returns-in-Class
unfolding slot_named slot_entry rows_in
returns-in-Class c = rw c.in-Class.is c.same_bytes-in-Class.ensures

pub returns-in-Key : goal.returns-in-Key
unfolding slot_named slot_entry rows_in
returns-in-Key c = rw (c.in-Key.is, ← c.row_at-row.ensures) c.is_named.ensures
