use borrow.Author.Rules.{rules}
use Rattle.sheet_mends.proofs.stands_too.Goals as goal

pub returns-then-good : goal.returns-then-good
returns-then-good c = rw c.if-good.true c.line_stands.ensures
