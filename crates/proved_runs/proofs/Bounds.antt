-- How far a run looks ahead, how long its text grows, and that a buffer of the text's length holds it.
-- Assumes nothing.
use Prim.Native.Nat.{◌-◌, ◌≤◌}
use mathlib.Core.List.{List, map}
use native.Mathlib.Omega.{arith}
use lib.ListN.{length, drop, length-drop}
use Rattle.text_lines.specs.Lines.{lines}
use Rattle.run_joins.specs.Joins.{Lined}
use Rattle.run_lines.specs.Runs.{as_is, run_of, run_at, sizes}
use Rattle.run_lines.proofs.Bounds as bounds
use Rattle.run_lines.proofs.Bounds.{lookahead_sum, sizes-lines, sizes-take}
use Rattle.proved_runs.specs.Lookaheads.{RunLookahead}
use Rattle.proved_runs.specs.JoinedTexts.{JoinedShort, NeverFull}

pub lookahead_le : RunLookahead
unfolding run_at
lookahead_le cap base t at = go (map as_is (lines (drop at t))) (sizes-lines (drop at t))
  where
    go : (ls : List Lined) → sizes ls ≤ length (drop at t) → ((run_of cap base ls).lookahead ≤ length t - at) × ((run_of cap base ls).lookahead ≤ length t)
    go ls h =
        let k = sizes-take (run_of cap base ls).lines ls in
        (omega (arith, lookahead_sum cap base ls, length-drop at t), omega (arith, lookahead_sum cap base ls, length-drop at t))

pub text_short : JoinedShort
unfolding run_at
text_short cap base t at = (bounds.text_le cap base (map as_is (lines (drop at t))), bounds.text_short cap base t at)

pub never_full : NeverFull
never_full = bounds.never_full
