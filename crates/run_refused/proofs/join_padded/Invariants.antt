use borrow.Author.Rules.{rules}
use mathlib.Core.Path.{ap}
use Prim.Native.Nat.{◌+◌, ◌-◌}
use native.Mathlib.Omega.{arith}
use borrow.Author.Tests.{not-true, not-false}
use lib.ListN.{length}
use Rattle.run_refused.specs.Inner.{padded_run}
use Rattle.run_refused.proofs.Padding as laws
use Rattle.run_refused.proofs.join_padded.Given as goal

abbrev pub invariant-lines : goal.invariant-lines
invariant-lines l = laws.Pads l.text l.opener l.initial.join (padded_run (length l.initial.join) l.opener l.text l.start) l.join l.st l.n l.lookahead l.at l.brace

abbrev pub decreases-lines : goal.decreases-lines
decreases-lines l = length l.text - l.at
