use Rattle.set_marks.specs.Marks.{is_quoted}
use borrow.Author.Rules.{rules}
use Rattle.set_marks.proofs.is_quoted.Goals as goal

pub returns-in-Plain : goal.returns-in-Plain
unfolding is_quoted
returns-in-Plain c = rw (c.in-Plain.is)

pub returns-in-Quoted : goal.returns-in-Quoted
unfolding is_quoted
returns-in-Quoted c = rw (c.in-Quoted.is)

pub returns-in-Empty : goal.returns-in-Empty
unfolding is_quoted
returns-in-Empty c = rw (c.in-Empty.is)
