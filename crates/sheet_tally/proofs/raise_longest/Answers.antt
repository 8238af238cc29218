use mathlib.Core.Path.{ap}
use Rattle.sheet_tally.proofs.Counting as laws
use borrow.Author.Rules.{rules}
use Rattle.sheet_tally.proofs.raise_longest.Goals as goal

pub returns-then-totals-lines : goal.returns-then-totals-lines
returns-then-totals-lines c = ap (λ ns. record { numbers = ns }) (laws.longer _ _ c.if-totals-lines.true)

pub returns : goal.returns
returns c = ap (λ ns. record { numbers = ns }) (laws.no_longer _ _ c.if-totals-lines.false)
