use borrow.Author.Rules.{rules}
use Rattle.run_spots.proofs.inside_after.Goals as goal

pub returns-then-p : goal.returns-then-p
returns-then-p c = rw (c.if-p.true, c.is_bare.ensures)

pub returns : goal.returns
returns c = rw (c.if-p.false, c.is_bare-2.ensures)
