use mathlib.Core.Path.{sym, ◌∙◌}
use Rattle.run_spots.specs.Spots.{spot_after}
use borrow.Author.Rules.{rules}
use Rattle.run_spots.proofs.brace_after.Goals as goal

pub returns-then-opens_at : goal.returns-then-opens_at
unfolding spot_after
returns-then-opens_at c = rw (sym (c.opens_at.ensures) ∙ (c.if-opens_at.true))

pub returns-else-opens_at : goal.returns-else-opens_at
unfolding spot_after
returns-else-opens_at c = rw (sym (c.opens_at.ensures) ∙ (c.if-opens_at.false))
