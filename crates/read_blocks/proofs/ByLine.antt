-- The blocks by line number: what they come to where a line begins, and where none does.
-- Assumes nothing.
use Rattle.std.specs.Prelude.{Err, Ok}
use mathlib.Core.Path.{◌≡◌}
use mathlib.Core.List.{List}
use Prim.Native.Nat.{ℕ}
use Rattle.base_refusals.specs.declared.Refusal.{Refusal}
use Rattle.text_line_start.specs.Starts.{start_at}
use Rattle.read_blocks.specs.Blocks.{nothing, found, wrapped}
use Rattle.read_blocks.specs.ByLine.{block_found, wrapped_found}

module _ (t : List ℕ) (n base cap : ℕ) where
  module _ {r : Refusal} (e : start_at t n ≡ Err r) where
    pub block_none : block_found t n base cap ≡ nothing r
    unfolding block_found
    block_none = rw e

    pub wraps_none : wrapped_found t n base cap ≡ nothing r
    unfolding wrapped_found
    wraps_none = rw e

  module _ {at : ℕ} (e : start_at t n ≡ Ok at) where
    pub block_at : block_found t n base cap ≡ found t at base cap
    unfolding block_found
    block_at = rw e

    pub wraps_at : wrapped_found t n base cap ≡ wrapped t at base cap
    unfolding wrapped_found
    wraps_at = rw e
