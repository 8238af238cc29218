use mathlib.Core.Path.{refl}
use Rattle.sheet_tally.specs.Inner.{add_at}
use borrow.Author.Rules.{rules}
use Rattle.sheet_tally.proofs.add_at.Goals as goal

pub returns : goal.returns
unfolding add_at
returns c = refl
