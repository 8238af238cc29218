-- A line of blocks: "blocks stand back to back to its end". By rules; Computed reads by computing.
use Rattle.std.specs.Prelude.{◌≡◌, Bool, true, List, [], ◌∷◌, ◌++◌, ℕ, suc, ◌+◌, length}
use Rattle.std.proofs.Math.Seq.{slice}
use Rattle.base_bytes.specs.declared.Mode.{Mode}
use Rattle.base_bytes.specs.declared.Mode.TheVariants.{Loose}
use Rattle.base_bytes.specs.Bytes.{close_brace, open_brace}
use Rattle.block_grammar.specs.Grammar.{Placed, Payload}
use Rattle.block_grammar.specs.Close.{Covered, no_lf}
use Rattle.block_tokens.specs.Shown.{accepted}
use Rattle.block_chain.specs.Computed.{read_blocks}

-- ---- by rules

-- a block whose brace stands at `at`: "the payload ends before the first `}` that no quote or backslash covers; .. An LF before it means no close."
pub data OneBlock (m : Mode) : ℕ → List ℕ → List Placed → Type 0 where
  block : {at : ℕ} {inside : List ℕ} {is : List Placed} → Covered inside → no_lf inside ≡ true → Payload m (suc at) inside is → OneBlock m at (open_brace ∷ (inside ++ (close_brace ∷ []))) is

-- one or more blocks, back to back; their items one after the other
pub data Blocks (m : Mode) : ℕ → List ℕ → List Placed → Type 0 where
  one : {at : ℕ} {b : List ℕ} {is : List Placed} → OneBlock m at b is → Blocks m at b is
  more : {at : ℕ} {b s : List ℕ} {is js : List Placed} → OneBlock m at b is → Blocks m (at + length b) s js → Blocks m at (b ++ s) (is ++ js)

-- "lines are loose": from `from` up to `to` of a text stands a good line
unfoldable pub good_line : List ℕ → ℕ → ℕ → Bool
good_line t from to = accepted (read_blocks Loose from (slice from to t))
