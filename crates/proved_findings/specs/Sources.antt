-- "trimmed lines joined by one space": where in the sheet a byte of the joined text is told: at the very byte that was joined.
use Rattle.std.specs.Prelude.{◌≡◌, List, ℕ, zero, suc, ◌+◌, ◌-◌, ◌<◌, ◌≤◌, length, get_or}
use Rattle.base_bytes.specs.Bytes.{space}
use Rattle.text_lines.specs.Lines.{line_at}
use Rattle.text_lines.specs.Trim.{trim}
use Rattle.block_trimmed_line.specs.Fronts.{front_of}
use Rattle.block_trimmed_line.specs.declared.Front.{Front}
use Rattle.run_lines.specs.Runs.{run_at, past_lines}
use Rattle.run_stops.specs.Stops.{source_of}

-- how many bytes of the joined text r lines take, the first of which begins at `at`: each what its trimming leaves, and the space behind it
unfoldable pub taken : List ℕ → ℕ → ℕ → ℕ
taken t at zero = 0
taken t at (suc r) = taken t at r + suc (length (trim (line_at t (past_lines r t at))))

-- the line behind these
abbrev pub line_behind : List ℕ → ℕ → ℕ → Front
line_behind t at r = front_of t (past_lines r t at)

-- the byte at k of the joined text is told r lines below the one at `at`, at the place p: as far from the front of that line's trimmed bytes as k is behind what the lines above it
-- take. There it is that byte, or right behind them the space that joins the next line.
pub record Sourced (t joined : List ℕ) (at k r p : ℕ) : Type 0 where
  pub above : taken t at r ≤ k
  pub place : p ≡ (line_behind t at r).from + (k - taken t at r)
  pub within : p ≤ (line_behind t at r).to
  pub byte : p < (line_behind t at r).to → get_or t p 0 ≡ get_or joined k 0
  pub joint : p ≡ (line_behind t at r).to → get_or joined k 0 ≡ space

-- every byte that the run from the line at `at` on has joined
abbrev pub TrueSources : Type 0
TrueSources = (t : List ℕ) (cap at k : ℕ) → k < length (run_at cap 0 t at).text
    → Sourced t (run_at cap 0 t at).text at k (source_of t at (run_at cap 0 t at).lines k).row (source_of t at (run_at cap 0 t at).lines k).place

-- so it is told of one line and place alone
abbrev pub OnlySource : Type 0
OnlySource = (t joined : List ℕ) (at k r p s q : ℕ) → Sourced t joined at k r p → Sourced t joined at k s q → (r ≡ s) × (p ≡ q)
