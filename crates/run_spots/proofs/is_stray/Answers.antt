use borrow.Author.Rules.{rules}
use Rattle.run_spots.proofs.is_stray.Goals as goal

pub returns : goal.returns
returns c = rw (c.if-p.false, c.is_bare.ensures)
