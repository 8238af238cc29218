use borrow.Author.Rules.{rules}
use Rattle.set_values.proofs.ident_ok.Goals as goal

pub returns-then-given : goal.returns-then-given
returns-then-given c = rw c.if-given.true c.value_ok.ensures

pub returns : goal.returns
returns c = rw c.if-given.false
