use borrow.Author.Rules.{rules}
use Rattle.run_scanners.proofs.or_quote.Goals as goal

-- src/lib.rt:111:9
pub returns-then-met : goal.returns-then-met
returns-then-met c = rw c.if-met.true

-- src/lib.rt:107:1
pub returns : goal.returns
returns c = rw c.if-met.false c.is_quote.ensures
