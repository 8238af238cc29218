-- "A payload is one or more tokens parted by blanks, which may stand at both ends." The rules are in block_grammar/specs/Grammar, for both modes;
-- `read_payload` reads by computing.
use Rattle.std.specs.Prelude.{◌≡◌, List, ℕ}
use Rattle.base_bytes.specs.declared.Mode.{Mode}
use Rattle.block_grammar.specs.Grammar.{Placed, Payload, Reading}
use Rattle.block_grammar.specs.Computed.{read_payload}

-- what is read is a payload with these items, ..
abbrev pub ReadIsPayload : Type 0
ReadIsPayload = (m : Mode) (at : ℕ) (s : List ℕ) (is : List Placed) → read_payload m at s ≡ Reading.items is → Payload m at s is

-- .. and a payload is read, with its items
abbrev pub PayloadIsRead : Mode → ℕ → List ℕ → List Placed → Type 0
PayloadIsRead m at s is = Payload m at s is → read_payload m at s ≡ Reading.items is

-- so a payload has one reading, ..
abbrev pub OnePayload : Mode → ℕ → List ℕ → List Placed → List Placed → Type 0
OnePayload m at s is js = Payload m at s is → Payload m at s js → is ≡ js

-- .. and 5 is given only where "no reading of the payload exists"
abbrev pub RefusedIsNoPayload : Type 0
RefusedIsNoPayload = (m : Mode) (at : ℕ) (s : List ℕ) → read_payload m at s ≡ Reading.refused → (is : List Placed) → Payload m at s is → ⊥
