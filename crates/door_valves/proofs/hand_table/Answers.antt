use borrow.Author.Rules.{rules}
use Rattle.door_valves.proofs.hand_table.Goals as goal

pub returns-in-Err : goal.returns-in-Err
returns-in-Err c = record { value = rw c.in-Err.is c.number.ensures; cells_after = rw c.in-Err.is }

pub returns-in-Ok : goal.returns-in-Ok
returns-in-Ok c =
    let told = c.in-Ok.is in record { value = rw told; cells_after = rw told c.lay_cells.ensures }
