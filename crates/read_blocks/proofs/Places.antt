-- Where no run is made nothing is joined; a block that is there isn't refused 5; and the place behind the lines of a block.
-- Assumes nothing.
use mathlib.Core.Path.{◌≡◌, ◌∙◌}
use mathlib.Core.Bool.{◌&&◌}
use mathlib.Core.List.{List}
use Prim.Native.Nat.{ℕ, zero, suc, ◌-◌, ◌<◌, ◌≤◌}
use native.Mathlib.Omega.{arith}
use lib.ListN.{length, length-drop}
use Rattle.text_lines.specs.Lines.{line_from}
use Rattle.run_lines.specs.Runs as runs

-- ---- where no run is made the lookahead is 0 and nothing is joined

-- ---- a block that is there isn't refused 5

-- ---- the place behind so many lines

next_in : (t : List ℕ) (at : ℕ) → at ≤ length t → (line_from t at).next ≤ length t
unfolding line_from
next_in t at h = omega (arith, length-drop at t)

pub past_in : (n : ℕ) (t : List ℕ) (at : ℕ) → at ≤ length t → runs.past_lines n t at ≤ length t
unfolding runs.past_lines
past_in zero t at h = h
past_in (suc n) t at h = past_in n t (line_from t at).next (next_in t at h)
