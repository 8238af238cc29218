use mathlib.Core.Path.{sym, ◌∙◌}
use Rattle.set_keyed.specs.Keyed.{slot_found}
use borrow.Author.Rules.{rules}
use Rattle.set_keyed.proofs.slot_found.Goals as goal

pub returns-then-is_named : goal.returns-then-is_named
unfolding slot_found
returns-then-is_named c = rw (c.in-Key.is, ← c.row_at-row.ensures, sym (c.is_named.ensures) ∙ c.if-is_named.true)

pub returns-in-Id : goal.returns-in-Id
unfolding slot_found
returns-in-Id c = rw (c.in-Id.is)

pub returns-in-Class : goal.returns-in-Class
unfolding slot_found
returns-in-Class c = rw (c.in-Class.is)

pub returns-else-is_named : goal.returns-else-is_named
unfolding slot_found
returns-else-is_named c = rw (c.in-Key.is, ← c.row_at-row.ensures, sym (c.is_named.ensures) ∙ c.if-is_named.false)
