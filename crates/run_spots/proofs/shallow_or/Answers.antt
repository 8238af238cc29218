use borrow.Author.Tests.{eq-eqb, ne_eqb}
use borrow.Author.Rules.{rules}
use Rattle.run_spots.proofs.shallow_or.Goals as goal

pub returns-then-n-eq0 : goal.returns-then-n-eq0
returns-then-n-eq0 c = rw (c.if-shallow.false, eq-eqb _ _ (c.if-n-eq0.true))

pub returns : goal.returns
returns c = rw (c.if-shallow.false, ne_eqb _ _ (c.if-n-eq0.false))
