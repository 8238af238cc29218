use borrow.Author.Rules.{rules}
use Rattle.set_exchange.proofs.other_id.Goals as goal

pub returns-then-given : goal.returns-then-given
returns-then-given c = rw c.if-given.true c.other_value.ensures

pub returns : goal.returns
returns c = rw c.if-given.false
