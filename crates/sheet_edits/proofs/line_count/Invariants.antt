use native.Mathlib.Omega.{arith}
use borrow.Author.Rules.{rules}
use Prim.Native.Nat.{◌-◌}
use lib.ListN.{length}
use Rattle.sheet_edits.proofs.Walks as laws
use Rattle.sheet_edits.proofs.line_count.Reads as reads
use Rattle.sheet_edits.proofs.line_count.Lts as lts
use Rattle.text_lines.proofs.line_from.Reads as line-from-reads
use Rattle.sheet_edits.proofs.line_count.Given as goal

abbrev pub invariant-loop-at : goal.invariant-loop-at
invariant-loop-at l = laws.Counts l.text l.n l.at

abbrev pub decreases-loop-at : goal.decreases-loop-at
decreases-loop-at l = length l.text - l.at
