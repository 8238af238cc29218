-- The line of blocks at a place, and by line number: "elsewhere 1, 2, 3, .."
use Rattle.std.specs.Prelude.{ℕ, cond, List, ◌∷◌}
use Rattle.base_bytes.specs.declared.Mode.TheVariants.{Loose}
use Rattle.base_refusals.specs.Orders.{Ground}
use Rattle.base_refusals.specs.declared.Refusal.TheVariants.{NothingThere}
use Rattle.set_fill.specs.Fill.{chain_at}
use Rattle.set_table.specs.declared.Filled.{Filled}
use Rattle.set_table.specs.Filled.{refusing}
use Rattle.block_trimmed_line.specs.Fronts.{front_of, opens_at}
use Rattle.text_line_start.specs.Starts.{start_at, on_start, line_order}
use Rattle.read_blocks.specs.Blocks.{read_order}

-- `parse_standalone_attrs`: the line alone, no run; it starts at a place, or has a number
unfoldable pub line_read : List ℕ → ℕ → Filled
line_read t at = cond (opens_at t at) (chain_at Loose t (front_of t at).from (front_of t at).to) (refusing NothingThere)

unfoldable pub parse_standalone : List ℕ → ℕ → Filled
parse_standalone t n = on_start refusing (line_read t) (start_at t n)

-- "1, 2, 3, .. 5 .., 6, 7"
abbrev pub standalone_order : List ℕ → ℕ → List Ground
standalone_order t n = line_order t n (λ at. Ground.lacking NothingThere (opens_at t at) ∷ read_order t (front_of t at).from (front_of t at).to)
