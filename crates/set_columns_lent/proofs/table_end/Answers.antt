use Rattle.set_columns_lent.specs.Lent.{table_end}
use Rattle.set_columns_lent.proofs.table_end.Goals as goal

pub returns-in-Err : goal.returns-in-Err
unfolding table_end
returns-in-Err c = rw c.in-Err.is

pub returns-in-Ok : goal.returns-in-Ok
unfolding table_end
returns-in-Ok c = rw c.in-Ok.is
