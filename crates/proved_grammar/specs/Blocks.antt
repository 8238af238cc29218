-- "A line is trimmed, then blocks stand back to back to its end". The rules `Blocks` are in block_chain/specs/Chain; `read_blocks` reads by computing.
use Rattle.std.specs.Prelude.{◌≡◌, List, ℕ}
use Rattle.base_bytes.specs.declared.Mode.{Mode}
use Rattle.block_grammar.specs.Grammar.{Placed, Reading}
use Rattle.block_chain.specs.Chain.{Blocks}
use Rattle.block_chain.specs.Computed.{read_blocks}

-- what is read is blocks back to back with these items, ..
abbrev pub ReadIsBlocks : Type 0
ReadIsBlocks = (m : Mode) (at : ℕ) (s : List ℕ) (is : List Placed) → read_blocks m at s ≡ Reading.items is → Blocks m at s is

-- .. and blocks back to back are read, with their items
abbrev pub BlocksAreRead : Mode → ℕ → List ℕ → List Placed → Type 0
BlocksAreRead m at s is = Blocks m at s is → read_blocks m at s ≡ Reading.items is

-- so they have one reading, ..
abbrev pub OneReadingOfBlocks : Mode → ℕ → List ℕ → List Placed → List Placed → Type 0
OneReadingOfBlocks m at s is js = Blocks m at s is → Blocks m at s js → is ≡ js

-- .. and 5 is given only where the line is "not a good line"
abbrev pub RefusedIsNoBlocks : Type 0
RefusedIsNoBlocks = (m : Mode) (at : ℕ) (s : List ℕ) → read_blocks m at s ≡ Reading.refused → (is : List Placed) → Blocks m at s is → ⊥
