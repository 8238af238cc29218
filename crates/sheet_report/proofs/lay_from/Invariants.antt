use Prim.Native.Nat.{◌-◌}
use native.Mathlib.Omega.{arith}
use lib.ListN.{length}
use Rattle.base_refusals.specs.Numbers.{max_text}
use Rattle.sheet_blocks.specs.Sheets.{tries_at}
use Rattle.sheet_blocks.proofs.SheetWalk.{walk_same, walk_ends, walk_meets}
use Rattle.sheet_report.specs.Parts.{lay_from}
use Rattle.sheet_report.proofs.Lays as lays
use borrow.Author.Rules.{rules}
use Rattle.sheet_report.proofs.lay_from.Given as goal

abbrev pub invariant-loop-at : goal.invariant-loop-at
invariant-loop-at l = lays.Lays l.text l.initial.join l.initial.out (lay_from l.text (length l.initial.out) (tries_at l.text max_text l.first l.from)) l.join l.out l.at l.line l.k

abbrev pub decreases-loop-at : goal.decreases-loop-at
decreases-loop-at l = length l.text - l.at
