-- "the quick test refuses nothing that the grammar accepts"
use Rattle.std.specs.Prelude.{◌≡◌, false, List, ◌∷◌, ◌++◌, ℕ, suc, drop}
use Rattle.base_bytes.specs.declared.Mode.{Mode}
use Rattle.base_bytes.specs.Bytes.{close_brace}
use Rattle.block_grammar.specs.Grammar.{Placed, Payload}
use Rattle.block_grammar.specs.Quick.{quick_refuses}

-- a payload s stands in the text w between a brace and a close: then the test lets it pass
abbrev pub QuickPasses : Mode → ℕ → List ℕ → List Placed → Type 0
QuickPasses m at s is = Payload m at s is → (w rest : List ℕ) (brace : ℕ) → drop (suc brace) w ≡ s ++ (close_brace ∷ rest) → quick_refuses w brace ≡ false
