use native.Mathlib.Omega.{arith}
use Rattle.set_loose.proofs.Left as laws
use borrow.Author.Rules.{rules}
use Rattle.set_loose.proofs.slot_left.Goals as goal

pub returns-then-j-k : goal.returns-then-j-k
returns-then-j-k c = rw c.in-Key.is (laws.key_gone _ _ c.if-j-k.true)

pub returns-then-k-j : goal.returns-then-k-j
returns-then-k-j c = rw c.in-Key.is (laws.key_lower _ _ c.if-k-j.true)

pub returns-in-Id : goal.returns-in-Id
returns-in-Id c = rw c.in-Id.is (laws.id_stays c.args.k)

pub returns-in-Class : goal.returns-in-Class
returns-in-Class c = rw c.in-Class.is (laws.class_stays c.args.k)

pub returns-else-k-j : goal.returns-else-k-j
returns-else-k-j c = rw c.in-Key.is (laws.key_stays _ _ c.if-j-k.false (omega arith))
