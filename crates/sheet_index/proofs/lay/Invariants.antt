use Prim.Native.Nat.{◌-◌}
use native.Mathlib.Omega.{arith}
use mathlib.Core.Path.{◌∙◌, ap}
use lib.ListN.{length}
use lib.Seq.{length-sets}
use Rattle.sheet_records.specs.Records.{index_header}
use Rattle.sheet_index.proofs.Rounds as round
use Rattle.sheet_index.proofs.Builds as laws
use borrow.Author.Rules.{rules}
use Rattle.sheet_index.proofs.lay.Given as goal

abbrev pub invariant-sheet : goal.invariant-sheet
invariant-sheet l = laws.Lays l.text l.initial.join l.initial.table l.initial.out l.join l.table l.out l.at l.line l.i l.k

abbrev pub decreases-sheet : goal.decreases-sheet
decreases-sheet l = length l.text - l.at
