-- How far the run of `refused_brace_run` looks ahead, and how long its joined text grows.
-- Assumes nothing.
use Rattle.std.specs.Prelude.{Err, None, Ok, Option, Result, Some}
use Prim.Native.Nat.{◌≤◌, zero-le}
use native.Mathlib.Omega.{arith}
use lib.ListN.{length, drop, length-drop}
use Rattle.text_checks.specs.Check.{check_of}
use Rattle.text_lines.specs.Lines.{lines, line_of}
use Rattle.run_lines.proofs.Bounds.{sizes-lines, costs_lines}
use Rattle.run_refused.specs.Refused.{refused_by, refused_run}
use Rattle.run_refused.proofs.Bounds.{told_ahead, told_text}
use Rattle.proved_runs.specs.Lookaheads.{RefusedLookahead}
use Rattle.proved_runs.specs.JoinedTexts.{RefusedShort}
use Rattle.base_refusals.specs.declared.Refusal.{Refusal}
use Rattle.text_lines.specs.declared.Range.{Range}

pub lookahead_le : RefusedLookahead
unfolding refused_run
lookahead_le cap t n = go (check_of t) (line_of n t)
  where
    go : (c : Result (Unit {0}) Refusal) (p : Option Range) → (refused_by cap t c p).lookahead ≤ length t
    go (Err r) p = zero-le
    go (Ok _) None = zero-le
    go (Ok _) (Some r) = omega (arith, told_ahead cap (lines (drop r.from t)), sizes-lines (drop r.from t), length-drop r.from t)

pub text_le : RefusedShort
unfolding refused_run
text_le cap t n = go (check_of t) (line_of n t)
  where
    go : (c : Result (Unit {0}) Refusal) (p : Option Range) → length (refused_by cap t c p).text ≤ length t
    go (Err r) p = zero-le
    go (Ok _) None = zero-le
    go (Ok _) (Some r) = omega (arith, told_text cap (lines (drop r.from t)), costs_lines (drop r.from t), length-drop r.from t)
