use borrow.Author.Rules.{rules}
use Rattle.run_scanners.proofs.covers.Goals as goal

pub returns-then-outside : goal.returns-then-outside
returns-then-outside c = rw (c.in-None.is, c.if-outside.true)

pub returns-in-Some : goal.returns-in-Some
returns-in-Some c = rw c.in-Some.is
