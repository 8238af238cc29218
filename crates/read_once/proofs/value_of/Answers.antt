use borrow.Author.Rules.{rules}
use Rattle.read_once.proofs.value_of.Goals as goal

pub returns-in-Plain : goal.returns-in-Plain
returns-in-Plain c = rw (c.in-Plain.is)

pub returns-in-Quoted : goal.returns-in-Quoted
returns-in-Quoted c = rw (c.in-Quoted.is)

pub returns-in-Empty : goal.returns-in-Empty
returns-in-Empty c = rw (c.in-Empty.is)
