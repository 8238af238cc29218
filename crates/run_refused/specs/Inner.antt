-- What private functions promise as they walk over a run: nothing that a reader of the public promises has to believe.
use Rattle.std.specs.Prelude.{ℕ, ◌*◌, Bool, true, false, length, drop}
use mathlib.Core.List.{List, [], foldl}
use Rattle.text_lines.specs.Lines.{lines}
use Rattle.run_joins.specs.Joins.{Lined}
use Rattle.run_lines.specs.Runs.{Run, run_of}
use Rattle.run_spots.specs.declared.Spot.{Spot}
use Rattle.run_refused.specs.declared.RefusedWalk.{RefusedWalk}
use Rattle.run_refused.specs.declared.RefusedWalk.TheVariants as walks
use Rattle.run_refused.specs.declared.Ran.{Ran}
use Rattle.run_refused.specs.Refused.{Stretch, on_first, walk_from}
use Rattle.run_spots.specs.Spots.{spot_after}
use Rattle.base_refusals.specs.Numbers.{max_text}

-- no column of a text is larger: four for each byte
abbrev pub max_column : ℕ
max_column = 4 * max_text

-- far beyond every column, so that a step further is a number too
abbrev pub far_column : ℕ
far_column = 4294967296

-- over a line without a stray brace
unfoldable pub spots_from : Spot → List ℕ → Spot
spots_from p s = foldl spot_after p s

unfoldable pub walk_at : ℕ → List ℕ → ℕ → Stretch
walk_at opener t at = walk_from opener (on_first opener) (lines (drop at t))

-- the padded lines are many and needn't be kept
abbrev pub shown_walk : Stretch → RefusedWalk
shown_walk Stretch.none = walks.No 0
shown_walk (Stretch.block shallow ls) = walks.Block (length ls) shallow

abbrev pub is_stretch : Stretch → Bool
is_stretch Stretch.none = false
is_stretch (Stretch.block shallow ls) = true

abbrev pub lines_taken : Stretch → List Lined
lines_taken Stretch.none = []
lines_taken (Stretch.block shallow ls) = ls

unfoldable pub padded_run : ℕ → ℕ → List ℕ → ℕ → Run
padded_run cap opener t at = run_of cap 0 (lines_taken (walk_at opener t at))

abbrev pub ran_of : Run → Ran
ran_of r = record { stop = r.stop; len = length r.text; lines = r.lines; lookahead = r.lookahead }
