use Rattle.std.specs.Prelude.{None, Ok}
use Prim.Native.Nat.{◌-◌}
use native.Mathlib.Omega.{arith}
use lib.ListN.{length}
use Prim.Native.Nat.{suc}
use Rattle.sheet_records.specs.Records.{index_header}
use Rattle.sheet_records.specs.Computed.{rows_from}
use Rattle.sheet_index.specs.Inner.{found_among}
use Rattle.sheet_index.proofs.Rows as laws
use borrow.Author.Rules.{rules}
use Rattle.sheet_index.proofs.find_from.Given as goal

abbrev pub invariant-rows : goal.invariant-rows
invariant-rows l = laws.Looks l.index l.id (found_among l.index (Ok None) l.id (rows_from (suc (length l.index)) l.index (length index_header))) l.found l.at

abbrev pub decreases-rows : goal.decreases-rows
decreases-rows l = length l.index - l.at
