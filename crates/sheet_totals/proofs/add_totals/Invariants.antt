use Rattle.sheet_totals.proofs.Adding as laws
use Rattle.sheet_totals.proofs.add_totals.Given as goal

abbrev pub invariant-loop-i : goal.invariant-loop-i
invariant-loop-i l = laws.Adds l.a.numbers l.b.numbers l.t.numbers l.i
