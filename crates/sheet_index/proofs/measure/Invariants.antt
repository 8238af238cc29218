use Prim.Native.Nat.{◌-◌}
use native.Mathlib.Omega.{arith}
use lib.ListN.{length}
use Rattle.sheet_index.proofs.Rounds as round
use Rattle.sheet_index.proofs.Builds as laws
use borrow.Author.Rules.{rules}
use Rattle.sheet_index.proofs.measure.Given as goal

abbrev pub invariant-sheet : goal.invariant-sheet
invariant-sheet l = laws.Measures l.text l.initial.join l.join l.at l.line l.records l.bytes

abbrev pub decreases-sheet : goal.decreases-sheet
decreases-sheet l = length l.text - l.at
