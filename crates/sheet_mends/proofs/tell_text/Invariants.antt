use Prim.Native.Nat.{◌-◌}
use native.Mathlib.Omega.{arith}
use lib.ListN.{length}
use borrow.Author.Rules.{rules}
use Rattle.sheet_index.proofs.Rounds as round
use Rattle.sheet_mends.proofs.Tells as laws
use Rattle.sheet_mends.proofs.tell_text.Given as goal

abbrev pub invariant-sheet : goal.invariant-sheet
invariant-sheet l = laws.Tells l.text l.index l.initial.join l.initial.table l.initial.out l.join l.table l.out l.line l.offset l.initial.told l.told l.at l.own

abbrev pub decreases-sheet : goal.decreases-sheet
decreases-sheet l = length l.text - l.at
