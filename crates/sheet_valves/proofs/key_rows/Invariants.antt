use Rattle.set_table.specs.Types.{two}
use Rattle.sheet_valves.proofs.Keys as laws
use Rattle.sheet_valves.proofs.key_rows.Given as goal

abbrev pub invariant-loop-p : goal.invariant-loop-p
invariant-loop-p l = laws.KeyWalk (two l.first l.second) l.fn.set l.variant l.wheel l.valve l.p-index
