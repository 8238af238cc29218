-- "pass `valid_wrapped_attr_continuation`": the place that is told of a later line of a run which doesn't is where it stops being what may stand there.
use Rattle.std.specs.Prelude.{◌≡◌, false, List, [], ◌∷◌, ◌++◌, ℕ, ◌+◌, ◌-◌, ◌≤◌, length}
use Rattle.base_bytes.specs.declared.Mode.TheVariants.{Loose}
use Rattle.base_bytes.specs.Bytes.{close_brace}
use Rattle.text_names.specs.Longest.{Longest}
use Rattle.text_lines.specs.Lines.{line_at}
use Rattle.block_places.specs.Rules.{HasReading}
use Rattle.block_payloads.specs.Payloads.{behind_last, continues}
use Rattle.run_stops.specs.Stops.{last_from, entries_in, entries_place}

-- what may stand in a line from `from` on, behind its last `}{`: entries, with or without the `}` that ends them; a `}` at the line's front ends those of the lines above
pub data Fits (from : ℕ) (s : List ℕ) : Type 0 where
  entries : HasReading Loose s → Fits from s
  closed : (u : List ℕ) → HasReading Loose u → u ++ (close_brace ∷ []) ≡ s → Fits from s
  above : from ≡ 0 → close_brace ∷ [] ≡ s → Fits from s

-- the longest prefix that can be continued to that
abbrev pub TruePlaces : Type 0
TruePlaces = (s : List ℕ) → continues s ≡ false → (last_from s ≤ entries_in s) × Longest (Fits (last_from s)) (behind_last s) (entries_in s - last_from s)

-- the place in the sheet stands within the line, or at its end
abbrev pub InTheLine : Type 0
InTheLine = (t : List ℕ) (at : ℕ) → (at ≤ entries_place t at) × (entries_place t at ≤ at + length (line_at t at))
