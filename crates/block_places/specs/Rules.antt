-- "an acceptable payload", and a token: the languages whose longest prefix is asked for, by the grammar's own rules.
use Rattle.std.specs.Prelude.{List, ℕ}
use Rattle.base_bytes.specs.declared.Mode.{Mode}
use Rattle.block_grammar.specs.Grammar.{Item, Placed, IsToken, Payload}

-- there are items that the payload grammar derives; limits and lengths don't count
pub record HasReading (m : Mode) (s : List ℕ) : Type 0 where
  pub items : List Placed
  pub payload : Payload m 0 s items

pub record HasToken (s : List ℕ) : Type 0 where
  pub item : Item
  pub token : IsToken s item
