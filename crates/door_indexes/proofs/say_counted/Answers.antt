use Rattle.door_shared.proofs.Laws.{told_1}
use borrow.Author.Rules.{rules}
use Rattle.door_indexes.proofs.say_counted.Goals as goal

pub returns-in-Err : goal.returns-in-Err
returns-in-Err c = record { value = rw (c.in-Err.is) (c.number.ensures); told_after = rw (c.in-Err.is) (told_1 _ _ (c.tell.ensures)) }

pub returns-in-Ok : goal.returns-in-Ok
returns-in-Ok c = record { value = rw (c.in-Ok.is); told_after = rw (c.in-Ok.is) (told_1 _ _ (c.tell-in-Ok.ensures)) }
