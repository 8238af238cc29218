use Rattle.door_columns.proofs.Laying as laws
use Rattle.door_columns.proofs.lay_columns.Given as goal

abbrev pub invariant-loop-i : goal.invariant-loop-i
invariant-loop-i l = laws.Lays l.initial.numbers l.columns l.n l.numbers l.i
