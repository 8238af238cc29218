use borrow.Author.Rules.{rules}
use Rattle.base_refusals.proofs.outcome_number.Goals as goal

pub returns-in-Err : goal.returns-in-Err
returns-in-Err c = rw (c.in-Err.is) (c.number.ensures)
