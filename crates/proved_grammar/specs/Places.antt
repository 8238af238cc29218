-- "What is read out of the lent text is of the first": each item's text stands in it at the item's place.
use Rattle.std.specs.Prelude.{◌≡◌, List, [], ◌∷◌, ◌++◌, ℕ, length, drop}
use Rattle.std.proofs.Math.Seq.{slice}
use Rattle.base_bytes.specs.declared.Mode.{Mode}
use Rattle.block_grammar.specs.Grammar.{Placed, Payload, Reading}
use Rattle.block_grammar.specs.Computed.{text}
use Rattle.block_chain.specs.Chain.{Blocks}
use Rattle.block_chain.specs.Computed.{read_blocks}

-- the items' texts stand in w at their places
pub data Standing (w : List ℕ) : List Placed → Type 0 where
  none : Standing w []
  and : {p : Placed} {is : List Placed} (rest : List ℕ) → drop p.at w ≡ text p.item ++ rest → Standing w is → Standing w (p ∷ is)

-- those of a payload that stands in a text behind `pre`, ..
abbrev pub PayloadStands : Mode → ℕ → List ℕ → List Placed → Type 0
PayloadStands m at s is = Payload m at s is → (pre post : List ℕ) → length pre ≡ at → Standing (pre ++ (s ++ post)) is

-- .. those of blocks back to back, ..
abbrev pub BlocksStand : Mode → ℕ → List ℕ → List Placed → Type 0
BlocksStand m at s is = Blocks m at s is → (pre post : List ℕ) → length pre ≡ at → Standing (pre ++ (s ++ post)) is

-- .. and those of a line that is read from `from` up to `to` of a text
abbrev pub LineStands : Type 0
LineStands = (m : Mode) (t : List ℕ) (from to : ℕ) (is : List Placed) → read_blocks m from (slice from to t) ≡ Reading.items is → Standing t is
