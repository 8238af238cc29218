use Prim.Native.Nat.{◌+◌}
use lib.ListN.{drop}
use Rattle.base_lists.specs.Lists.{run}
use Rattle.base_bytes.specs.Bytes.{is_blank}
use Rattle.base_lists.proofs.Runs as runs
use Rattle.block_tokens.proofs.blank_end.Given as goal

abbrev pub invariant-loop-a : goal.invariant-loop-a
invariant-loop-a l = runs.RunsFrom (is_blank l.mode) l.s (l.i + run (is_blank l.mode) (drop l.i l.s)) l.a
