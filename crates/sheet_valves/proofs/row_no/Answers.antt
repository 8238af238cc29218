use native.Mathlib.Omega.{arith}
use borrow.Author.Tests.{lt-ltb, le-ltb}
use borrow.Author.Rules.{rules}
use Rattle.sheet_valves.proofs.row_no.Goals as goal

pub returns-then-i-n : goal.returns-then-i-n
returns-then-i-n c = rw (c.in-Key.is, lt-ltb _ _ c.if-i-n.true)

pub returns-else-i-n : goal.returns-else-i-n
returns-else-i-n c = rw (c.in-Key.is, le-ltb _ _ c.if-i-n.false)
