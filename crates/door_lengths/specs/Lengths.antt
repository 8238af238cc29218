-- What a caller from C or Rust is told of a block that is measured.
use Rattle.std.specs.Prelude.{ℕ, List, [], ◌∷◌}
use Rattle.read_blocks.specs.Blocks.{Found}
use Rattle.read_lengths.specs.Lengths.{measured, lines_in}
use Rattle.read_lengths.specs.declared.Measure.{Measure}

-- what measuring told: its lines, the place behind them, the lookahead and the bytes joined
abbrev pub measure_told : Measure → List ℕ
measure_told m = lines_in m.length ∷ m.next ∷ m.lookahead ∷ m.joined ∷ []

unfoldable pub length_told : List ℕ → ℕ → Found → List ℕ
length_told t at f = measure_told (measured t at f)
