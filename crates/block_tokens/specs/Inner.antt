-- What the code's own functions read of a token. No definition of a public promise rests on these.
use Rattle.std.specs.Prelude.{Bool, false, List, [], ◌∷◌, ℕ, suc, ◌+◌, ◌-◌, take, drop, Err, None, Ok, Option, Result, Some}
use Rattle.base_bytes.specs.declared.Mode.{Mode}
use Rattle.base_bytes.specs.Bytes.{is_letter, is_key_start, equals}
use Rattle.text_names.specs.Names.{is_name}
use Rattle.text_names.specs.Computed.{is_language}
use Rattle.block_grammar.specs.Grammar.{Item}
use Rattle.block_grammar.specs.Computed.{First, Shut, shut_of, word_token, quoted_token}
use Rattle.base_lists.specs.Lists.{begins}
use Rattle.block_places.specs.Computed.{Spot, go_if, onward, walk_passes, nothing_parts}
use Rattle.block_tokens.specs.declared.Token.{Token}

abbrev pub tag_token : Mode → List ℕ → First
tag_token m s = word_token m is_language (λ t. Item.tag t) s

abbrev pub id_token : Mode → List ℕ → First
id_token m s = word_token m is_name (λ n. Item.id n) s

abbrev pub class_token : Mode → List ℕ → First
class_token m s = word_token m is_name (λ n. Item.class n) s

abbrev pub quoted_from : Mode → List ℕ → ℕ → List ℕ → First
quoted_from m k q s = quoted_token m k q s (shut_of q s false)

-- the bytes of s from i to k
abbrev pub part : ℕ → ℕ → List ℕ → List ℕ
part i k s = take (k - i) (drop i s)

abbrev pub starts_eq : List ℕ → Bool
starts_eq s = begins s equals

-- where a quote closes whose text begins at i
abbrev pub shut_at : ℕ → Shut → Option ℕ
shut_at i Shut.never = None
shut_at i (Shut.after n) = Some (i + n)

-- where a token stops being one whose bytes before a lead to the spot
abbrev pub spot_place : Spot → ℕ → List ℕ → ℕ
spot_place st a s = a + walk_passes nothing_parts st (drop a s)

-- how far bytes can be continued to a key with its value or a bare name
abbrev pub word_place : List ℕ → ℕ
word_place [] = 0
word_place (b ∷ s) = onward 0 (λ v. suc (walk_passes nothing_parts v s)) (go_if (is_key_start b) (Spot.word (is_letter b)))

-- what a loop over tokens does at one
abbrev pub behind_of : Token → Result ℕ ℕ
behind_of (Token.Bad n) = Err n
behind_of (Token.Tag f e) = Ok e
behind_of (Token.Id f e) = Ok e
behind_of (Token.Class f e) = Ok e
behind_of (Token.Plain f k e) = Ok e
behind_of (Token.Quoted f k e) = Ok e
behind_of (Token.Bare f e) = Ok e
