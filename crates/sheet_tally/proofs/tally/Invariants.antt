use Rattle.sheet_tally.proofs.Tallies as laws
use borrow.Author.Rules.{rules}
use lib.ListN.{length}
use mathlib.Core.Path.{sym, ◌∙◌, ap}
use native.Mathlib.Omega.{arith}
use Prim.Native.Nat.{◌-◌}
use Rattle.sheet_tally.proofs.tally.Given as goal

abbrev pub invariant-lines : goal.invariant-lines
invariant-lines l = laws.Tallies l.text l.initial.join l.join l.at l.totals.numbers

abbrev pub decreases-lines : goal.decreases-lines
decreases-lines l = length l.text - l.at
