-- An answer about a block's length, made of what the parts promise.
-- Assumes nothing.
use mathlib.Core.Path.{◌≡◌, ap, ◌∙◌}
use mathlib.Core.List.{List}
use Prim.Native.Nat.{ℕ}
use Rattle.read_blocks.specs.Blocks.{Found, join_holds}
use Rattle.read_lengths.specs.Lengths.{length_of, length_no, measured}
use Rattle.read_lengths.specs.declared.Measure.{Measure}
use Rattle.door_shared.specs.Tells.{told_in}
use Rattle.door_lengths.specs.Lengths.{measure_told, length_told}

pub length_says : (t j told : List ℕ) (at : ℕ) (f : Found) {m : Measure} {i v : List ℕ} {r : ℕ} → m ≡ measured t at f → i ≡ join_holds j f → r ≡ length_no m.length → v ≡ told_in told (measure_told m) → (r ≡ length_no (length_of f)) × ((i ≡ join_holds j f) × (v ≡ told_in told (length_told t at f)))
unfolding length_told measured
length_says t j told at f {m} {i} {v} {r} p q x z = (x ∙ ap (λ s. length_no s.length) p, (q, z ∙ ap (λ s. told_in told (measure_told s)) p))
