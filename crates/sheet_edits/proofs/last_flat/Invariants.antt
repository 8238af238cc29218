use native.Mathlib.Omega.{arith}
use Rattle.sheet_edits.proofs.Walks as laws
use Rattle.sheet_edits.proofs.last_flat.Given as goal

abbrev pub invariant-loop-i : goal.invariant-loop-i
invariant-loop-i l = laws.Lasts l.text l.i
