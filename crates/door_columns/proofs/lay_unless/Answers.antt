use Rattle.door_columns.specs.Said.{table_nos}
use borrow.Author.Rules.{rules}
use Rattle.door_columns.proofs.lay_unless.Goals as goal

pub returns-in-Err : goal.returns-in-Err
returns-in-Err c = rw c.in-Err.is

pub returns-in-Ok : goal.returns-in-Ok
unfolding table_nos
returns-in-Ok c = rw c.in-Ok.is c.lay_columns.ensures
