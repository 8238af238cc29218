use Rattle.sheet_numbers.proofs.Laying as laws
use Rattle.sheet_numbers.proofs.lay.Given as goal

abbrev pub invariant-loop-b : goal.invariant-loop-b
invariant-loop-b l = laws.Lays l.b-items l.totals.numbers l.initial.out l.out l.at l.i l.b-index
