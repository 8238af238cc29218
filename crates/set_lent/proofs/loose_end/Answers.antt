use Rattle.set_lent.proofs.Standing as standing
use borrow.Author.Rules.{rules}
use Rattle.set_lent.proofs.loose_end.Goals as goal

pub returns-in-Err : goal.returns-in-Err
returns-in-Err c = standing.loose_refused _ _ c.in-Err.is

pub returns-in-Ok-true : goal.returns-in-Ok-true
returns-in-Ok-true c = standing.loose_yes _ _ (let a = c.in-Ok-true.is in let b = c.in-Ok-true.field-0-test in cc)

pub returns-in-Ok-false : goal.returns-in-Ok-false
returns-in-Ok-false c = standing.loose_no _ _ (let a = c.in-Ok-false.is in let b = c.in-Ok-false.field-0-test in cc)
