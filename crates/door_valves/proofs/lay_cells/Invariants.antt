use Rattle.door_valves.proofs.Says as laws
use Rattle.door_valves.proofs.lay_cells.Given as goal

abbrev pub invariant-loop-i : goal.invariant-loop-i
invariant-loop-i l = laws.CellsLaid l.table l.initial.cells l.cells l.i
