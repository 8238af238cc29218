use native.Mathlib.Omega.{arith}
use Rattle.set_table.proofs.Holding as holding
use borrow.Author.Rules.{rules}
use Rattle.set_merge.proofs.put_id.Goals as goal

pub returns-then-was : goal.returns-then-was
returns-then-was c = λ t. holding.id_again c.requires t _ c.if-was.true

pub bounds-set-p : goal.bounds-set-p
bounds-set-p c = omega (arith, holding.room_id c.requires c.if-was.false)

pub overflow_add-set : goal.overflow_add-set
overflow_add-set c = omega (arith, holding.few c.requires)

pub returns : goal.returns
returns c = λ t. holding.id_first c.requires t _ c.if-was.false
