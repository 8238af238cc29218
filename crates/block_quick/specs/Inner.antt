-- What the quick test's private functions promise.
use Rattle.std.specs.Prelude.{◌≡◌, Bool, true, false, List, ℕ}
use Rattle.base_bytes.specs.Bytes.{is_key_start, is_name_start, is_name_part}
use Rattle.base_letters.specs.Classes.{is_of}
use Rattle.block_grammar.specs.declared.Walk.{Walk}
use Rattle.block_quick.specs.declared.Turn.{Turn}
use Rattle.block_quick.specs.declared.Turn.TheVariants.{Refuse, Leave, On}

-- the test's answer, where `rest` answers for what follows
abbrev pub answer : Turn → (Walk → Bool) → Bool
answer Refuse rest = true
answer Leave rest = false
answer (On w) rest = rest w

-- the turn t is the step f of the definition
pub record Leads (t : Turn) (f : (Walk → Bool) → Bool) : Type 0 where
  pub goes : (rest : Walk → Bool) → answer t rest ≡ f rest

-- a table of classes that tells the first and later bytes of keys and names
pub record Tells (table : List ℕ) : Type 0 where
  pub key : is_of table 5 ≡ is_key_start
  pub name : is_of table 7 ≡ is_name_start
  pub part : is_of table 15 ≡ is_name_part
