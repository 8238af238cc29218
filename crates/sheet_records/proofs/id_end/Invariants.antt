use Prim.Native.Nat.{max, ◌≤◌}
use lib.ListN.{length}
use Rattle.sheet_records.proofs.Places as laws
use Rattle.sheet_records.proofs.id_end.Given as goal

abbrev pub invariant-loop-i : goal.invariant-loop-i
invariant-loop-i l = laws.Ends l.index l.from l.i × (l.i ≤ max l.from (length l.index))
