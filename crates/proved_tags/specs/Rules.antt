-- A strict reading by rules, beside those of ordinary reading (`Given` of proved_reading/specs/Table): "13 not well-formed, in strict reading, after 5 and before 6."
-- The tag's rules are the ABNF's, text_langtags/specs/Grammar.
use Rattle.std.specs.Prelude.{◌≡◌, List, [], ◌∷◌, ℕ, Err, Result}
use Rattle.base_bytes.specs.declared.Mode.{Mode}
use Rattle.base_refusals.specs.declared.Refusal.TheVariants.{BadTag}
use Rattle.text_langtags.specs.Grammar.{Allowed}
use Rattle.block_grammar.specs.Grammar.{Placed}
use Rattle.block_grammar.specs.Meaning.{Entry, lang_name, lookup}
use Rattle.proved_grammar.specs.Meaning.{meaning}
use Rattle.set_table.specs.Types.{one}
use Rattle.set_table.specs.Rows.{meaning_of}
use Rattle.read_brace.specs.declared.NotRead.{NotRead}
use Rattle.read_brace.specs.declared.NotRead.TheVariants.{Refused}
use Rattle.proved_sets.specs.Limits.{Exactly}
use Rattle.proved_reading.specs.Table.{Reads, Given}
use Rattle.read_tags.specs.Tagged.{read_tagged}
use Rattle.read_tags.specs.declared.Tags.TheVariants.{WellFormed}

-- the `lang` value of a meaning, if there is one, is empty or well-formed
abbrev pub LangAllowed : List Entry → Type 0
LangAllowed s = (v : List ℕ) → lookup lang_name s ≡ v ∷ [] → Allowed v

pub data StrictGiven (m : Mode) (t : List ℕ) (i : ℕ) : Result ℕ NotRead → List Entry → Type 0 where
  -- 1, 3, 4, 2, and 5 with its place: where the grammar reads no payload, as in ordinary reading
  unread : {a : Result ℕ NotRead} {s : List Entry} → ((e : ℕ) (is : List Placed) → Reads m t i e is → ⊥) → Given m t i a s → StrictGiven m t i a s
  -- 13: "checks every `lang` value of the finished set against well-formedness in RFC 5646 section 2.1"
  malformed : {e : ℕ} {is : List Placed} {v : List ℕ} → Reads m t i e is → lookup lang_name (meaning is) ≡ v ∷ [] → (Allowed v → ⊥) → StrictGiven m t i (Err (Refused BadTag)) []
  -- 6, 7, and the set: as in ordinary reading
  passed : {e : ℕ} {is : List Placed} {a : Result ℕ NotRead} {s : List Entry} → Reads m t i e is → LangAllowed (meaning is) → Given m t i a s → StrictGiven m t i a s

-- "Given exactly when"
abbrev pub StrictByRules : Type 0
StrictByRules = (m : Mode) (t : List ℕ) (i : ℕ) → Exactly (StrictGiven m t i) (read_tagged WellFormed m t i).answer (meaning_of (one t) (read_tagged WellFormed m t i).set)
