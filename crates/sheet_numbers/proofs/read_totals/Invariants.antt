use Rattle.sheet_numbers.proofs.Reading as laws
use Rattle.sheet_numbers.proofs.read_totals.Given as goal

abbrev pub invariant-loop-b : goal.invariant-loop-b
invariant-loop-b l = laws.Reads l.b-items l.text l.totals.numbers l.at l.i l.b-index
