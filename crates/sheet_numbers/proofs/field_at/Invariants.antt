use Rattle.sheet_numbers.proofs.Fields as laws
use Rattle.sheet_numbers.proofs.field_at.Given as goal

abbrev pub invariant-loop-at : goal.invariant-loop-at
invariant-loop-at l = laws.Scans l.text l.from l.d l.at
