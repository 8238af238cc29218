-- What the code's own function promises where nothing is there. No definition of a public promise rests on this.
use Rattle.std.specs.Prelude.{ℕ, Err}
use Rattle.base_refusals.specs.declared.Refusal.{Refusal}
use Rattle.read_lengths.specs.declared.Measure.{Measure}

-- why nothing is measured at a place
abbrev pub unmeasured : Refusal → ℕ → Measure
unmeasured r at = record { length = Err r; lookahead = 0; joined = 0; next = at }
