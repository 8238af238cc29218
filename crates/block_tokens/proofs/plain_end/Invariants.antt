use Prim.Native.Nat.{◌+◌}
use lib.ListN.{drop}
use Rattle.base_lists.specs.Lists.{run}
use Rattle.base_bytes.specs.Bytes.{is_plain}
use Rattle.base_lists.proofs.Runs as runs
use Rattle.block_tokens.proofs.plain_end.Given as goal

abbrev pub invariant-loop-k : goal.invariant-loop-k
invariant-loop-k l = runs.RunsFrom is_plain l.s (l.i + run is_plain (drop l.i l.s)) l.k
