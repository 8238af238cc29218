-- Blocks by line number, which the entries that read and those that measure share.
use Rattle.std.specs.Prelude.{ℕ, List}
use Rattle.base_refusals.specs.Orders.{Ground}
use Rattle.text_line_start.specs.Starts.{start_at, on_start, line_order}
use Rattle.read_blocks.specs.Blocks.{Found, nothing, found, wrapped, found_order, wrapped_order, read_order}

-- `parse_standalone_attrs_block`, and `attrs_block_len_at` of a column: "adds its column to the first line's brace column"
unfoldable pub block_found : List ℕ → ℕ → ℕ → ℕ → Found
block_found t n base cap = on_start nothing (λ at. found t at base cap) (start_at t n)

-- `wrapped_attrs_run_at`: a run, also of one good line
unfoldable pub wrapped_found : List ℕ → ℕ → ℕ → ℕ → Found
wrapped_found t n base cap = on_start nothing (λ at. wrapped t at base cap) (start_at t n)

-- ---- where they are read: "1, 2, 3, 9 or 5 as the run meets them, 6, 7"

-- `parse_standalone_attrs_block`
abbrev pub block_order : List ℕ → ℕ → ℕ → List Ground
block_order t n cap = line_order t n (λ at. found_order read_order t at 0 cap)

-- `wrapped_attrs_run_at`
abbrev pub wrap_order : List ℕ → ℕ → ℕ → ℕ → List Ground
wrap_order t n base cap = line_order t n (λ at. wrapped_order read_order t at base cap)
