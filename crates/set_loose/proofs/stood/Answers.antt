use native.Mathlib.Omega.{arith}
use borrow.Author.Tests.{lt-ltb, le-ltb}
use borrow.Author.Rules.{rules}
use Rattle.set_loose.proofs.stood.Goals as goal

pub returns-then-j-k : goal.returns-then-j-k
returns-then-j-k c = rw (lt-ltb c.args.j c.args.k c.if-j-k.true)

pub returns : goal.returns
returns c = rw (le-ltb c.args.j c.args.k (omega arith)) (omega arith)
