use lib.ListN.{length-map}
use native.Mathlib.Omega.{arith}
use Rattle.set_items.specs.Inner.{slot_items}
use Rattle.set_items.proofs.Slots as laws
use borrow.Author.Rules.{rules}
use Rattle.set_items.proofs.slot_count.Goals as goal

pub returns-then-set : goal.returns-then-set
unfolding slot_items
returns-then-set c = (rw (c.in-Id.is, c.if-set.true), omega arith)

pub returns-else-set : goal.returns-else-set
unfolding slot_items
returns-else-set c = (rw (c.in-Id.is, c.if-set.false), omega arith)

pub returns-in-Class : goal.returns-in-Class
unfolding slot_items
returns-in-Class c = (rw c.in-Class.is (laws.class_count _ _ _ (c.well_formed.0.1.1.1.1.1.1.1.0.1.0.1) c.least.ensures), omega (arith, c.least.ensures))

pub returns-in-Key : goal.returns-in-Key
unfolding slot_items
returns-in-Key c = (rw c.in-Key.is, omega arith)
