use Rattle.set_lent.proofs.Standing as standing
use Rattle.set_lent.proofs.end_of.Goals as goal

pub returns-in-Err : goal.returns-in-Err
returns-in-Err c = standing.refused_stands _ _ c.in-Err.is

pub returns-in-Ok : goal.returns-in-Ok
returns-in-Ok c = standing.done_goes _ _ c.in-Ok.is
