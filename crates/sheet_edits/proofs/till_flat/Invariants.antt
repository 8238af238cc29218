use Rattle.sheet_edits.proofs.Walks as laws
use Rattle.sheet_edits.proofs.till_flat.Given as goal

abbrev pub invariant-loop-i : goal.invariant-loop-i
invariant-loop-i l = laws.Tills l.text l.front l.fresh l.i
