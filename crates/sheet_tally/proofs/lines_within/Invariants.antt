use Prim.Native.Nat.{◌-◌}
use native.Mathlib.Omega.{arith}
use lib.ListN.{length, drop}
use Rattle.text_lines.specs.Lines.{lines}
use Rattle.sheet_tally.specs.Inner.{lines_within}
use Rattle.sheet_tally.proofs.Counting as laws
use borrow.Author.Rules.{rules}
use Rattle.sheet_tally.proofs.lines_within.Given as goal

abbrev pub invariant-lines : goal.invariant-lines
invariant-lines l = laws.Within l.text (lines_within (lines (drop l.at l.text)) l.bytes) l.n l.left l.from

abbrev pub decreases-lines : goal.decreases-lines
decreases-lines l = length l.text - l.from
