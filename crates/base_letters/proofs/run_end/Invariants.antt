use Prim.Native.Nat.{◌+◌}
use lib.ListN.{drop}
use Rattle.base_lists.specs.Lists.{run}
use Rattle.base_lists.proofs.Runs as runs
use Rattle.base_letters.specs.Classes.{is_of}
use Rattle.base_letters.proofs.run_end.Given as goal

abbrev pub invariant-loop-k : goal.invariant-loop-k
invariant-loop-k l = runs.RunsFrom (is_of l.table l.mask) l.s (l.i + run (is_of l.table l.mask) (drop l.i l.s)) l.k
