use borrow.Author.Rules.{rules}
use Rattle.door_tokens.proofs.ahead_shape.Goals as goal

pub returns-in-None : goal.returns-in-None
returns-in-None c = rw c.in-None.is

pub returns-in-Some : goal.returns-in-Some
returns-in-Some c = rw c.in-Some.is c.token_shape.ensures
