use Prim.Native.Nat.{◌-◌}
use lib.ListN.{length}
use native.Mathlib.Omega.{arith}
use borrow.Author.Rules.{rules}
use Rattle.run_lines.specs.Runs.{run_at}
use Rattle.run_lines.proofs.Joining as laws
use Rattle.run_lines.proofs.join_run.Given as goal

abbrev pub invariant-lines : goal.invariant-lines
invariant-lines l = laws.Joins l.text l.at l.initial.join (run_at (length l.initial.join) l.base l.text l.at) l.join l.st l.count l.lookahead l.from

abbrev pub decreases-lines : goal.decreases-lines
decreases-lines l = length l.text - l.from
