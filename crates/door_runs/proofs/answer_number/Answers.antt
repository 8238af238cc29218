use borrow.Author.Rules.{rules}
use Rattle.door_runs.proofs.answer_number.Goals as goal

pub returns-in-Err : goal.returns-in-Err
returns-in-Err c = rw (c.in-Err.is) (c.number.ensures)
