use Prim.Native.Nat.{◌-◌}
use native.Mathlib.Omega.{arith}
use lib.ListN.{length}
use borrow.Author.Rules.{rules}
use Rattle.base_refusals.specs.Numbers.{max_text}
use Rattle.sheet_blocks.specs.Sheets.{tries_at, blocks_of}
use Rattle.sheet_blocks.proofs.SheetWalk.{walk_same, walk_ends, walk_meets}
use Rattle.sheet_valves.specs.Tables.{empty_table}
use Rattle.sheet_variants.specs.Variants.{variants_from, past_of}
use Rattle.sheet_variants.proofs.Walks as laws
use Rattle.sheet_variants.proofs.fill_table.Given as goal

abbrev pub invariant-sheet : goal.invariant-sheet
invariant-sheet l = laws.Walks l.text l.initial.join (variants_from l.text empty_table (blocks_of l.text)) (past_of l.text (tries_at l.text max_text 1 0)) l.join l.at l.line l.table

abbrev pub decreases-sheet : goal.decreases-sheet
decreases-sheet l = length l.text - l.at
