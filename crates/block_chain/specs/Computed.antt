-- A line of blocks, read by computing. The rules are `Blocks` of Chain; the two are proved to agree (proved_grammar/specs/Blocks).
use Rattle.std.specs.Prelude.{cond, List, [], ◌∷◌, ◌++◌, ℕ, zero, suc, ◌-◌, eqb, take, None, Option, Some}
use Rattle.base_bytes.specs.declared.Mode.{Mode}
use Rattle.base_bytes.specs.Bytes.{open_brace}
use Rattle.block_grammar.specs.Grammar.{Reading}
use Rattle.block_grammar.specs.Computed.{one_or_more, read_payload}
use Rattle.block_grammar.specs.Close.{fresh}
use Rattle.block_grammar.specs.ComputedClose.{close_from}

-- one reading after the other: refused if either is
abbrev pub joined : Reading → Reading → Reading
joined Reading.refused r = Reading.refused
joined (Reading.items is) Reading.refused = Reading.refused
joined (Reading.items is) (Reading.items js) = Reading.items (is ++ js)

-- behind a brace, s begins at `at` and the close is known: the payload, and then the rest, once it is known how many bytes of s the block took
abbrev pub block_to : Mode → List ℕ → ℕ → Option ℕ → (ℕ → Reading) → Reading
block_to m s at None rest = Reading.refused
block_to m s at (Some e) rest = joined (read_payload m at (take (e - at) s)) (rest (suc (e - at)))

-- the list's first byte stands at `at`, and k bytes of the list belong to a block already read
unfoldable pub blocks_from : Mode → List ℕ → ℕ → ℕ → Reading
blocks_from m [] k at = Reading.items []
blocks_from m (b ∷ s) zero at = cond (eqb b open_brace) (block_to m s (suc at) (close_from s fresh (suc at)) (λ n. blocks_from m s n (suc at))) Reading.refused
blocks_from m (b ∷ s) (suc k) at = blocks_from m s k (suc at)

-- "blocks stand back to back to its end": one or more
unfoldable pub read_blocks : Mode → ℕ → List ℕ → Reading
read_blocks m at s = one_or_more (blocks_from m s 0 at)
