use borrow.Author.Rules.{rules}
use Rattle.set_exchange.proofs.other_value.Goals as goal

pub returns-in-Plain : goal.returns-in-Plain
returns-in-Plain c = rw (c.other.ensures, c.in-Plain.is)

pub returns-in-Quoted : goal.returns-in-Quoted
returns-in-Quoted c = rw (c.other-in-Quoted.ensures, c.in-Quoted.is)

pub returns-in-Empty : goal.returns-in-Empty
returns-in-Empty c = rw c.in-Empty.is
