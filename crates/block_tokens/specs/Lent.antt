-- A token by a lent table of classes, whatever the table holds: the rules of `token_of`, and how far the bytes can be continued, with the table's tests of bytes.
-- Where the table tells the bytes (`TellsBytes`) it is `token_at`, as is proved (proofs/Lent).
use Rattle.std.specs.Prelude.{Bool, cond, List, [], ◌∷◌, ℕ, suc, ◌+◌, eqb, take, drop}
use Rattle.base_lists.specs.Lists.{headed, run, first_is, begins, is_in}
use Rattle.base_bytes.specs.declared.Mode.{Mode}
use Rattle.base_bytes.specs.Bytes.{colon, dot, equals, hash}
use Rattle.base_letters.specs.Classes.{is_of, front_run}
use Rattle.text_names.specs.Computed.{language_by, tag_passes}
use Rattle.block_grammar.specs.Grammar.{Item}
use Rattle.block_grammar.specs.Computed.{First, finish, front_token, value_token}
use Rattle.block_places.specs.Computed.{Spot, walk_passes, nothing_parts}
use Rattle.block_tokens.specs.declared.Token.{Token}
use Rattle.block_tokens.specs.Shown.{shown}

-- what passes as a letter; as a letter or a digit; as the first byte of a key, and of a name; as a later byte of either
pub record Tests : Type 0 where
  pub letter : ℕ → Bool
  pub alnum : ℕ → Bool
  pub key : ℕ → Bool
  pub name : ℕ → Bool
  pub part : ℕ → Bool

-- .. by the masks of a table
abbrev pub tests_of : List ℕ → Tests
tests_of table = record { letter = is_of table 1; alnum = is_of table 3; key = is_of table 5; name = is_of table 7; part = is_of table 15 }

-- ---- the token

-- "`:`, then nothing or a tag."
abbrev pub tag_by : Tests → Mode → List ℕ → First
tag_by t m s = front_token m (run t.part s) (language_by t.alnum) (λ n. Item.tag n) s

-- behind `#` and `.`: a name
abbrev pub name_by : Tests → Mode → (List ℕ → Item) → List ℕ → First
name_by t m item s = front_token m (run t.part s) (headed t.name t.part) item s

-- behind the longest run k of name bytes: a key's value, or else k is a bare name
abbrev pub after_by : Tests → Mode → List ℕ → List ℕ → First
after_by t m k s =
    cond (begins s equals) (cond (headed t.key t.part k) (value_token m k (drop 1 s)) First.none)
    (finish m (headed t.letter t.part k) (Item.bare k) s)

abbrev pub word_by : Tests → Mode → List ℕ → First
word_by t m s = after_by t m (take (run t.part s) s) (drop (run t.part s) s)

unfoldable pub first_by : Tests → Mode → List ℕ → First
first_by t m [] = First.none
first_by t m (b ∷ s) =
    cond (eqb b colon) (tag_by t m s)
    (cond (eqb b hash) (name_by t m (λ n. Item.id n) s)
    (cond (eqb b dot) (name_by t m (λ n. Item.class n) s)
    (word_by t m (b ∷ s))))

-- ---- how far bytes can be continued to one

abbrev pub tag_place_by : Tests → List ℕ → ℕ
tag_place_by t s = tag_passes t.alnum (take (run t.part s) s) 0

abbrev pub name_place_by : Tests → List ℕ → ℕ
name_place_by t s = front_run t.name t.part s

-- behind a key: through `=` and as far as a value goes
abbrev pub value_place : List ℕ → ℕ
value_place s = cond (begins s equals) (suc (walk_passes nothing_parts Spot.due (drop 1 s))) 0

abbrev pub word_place_by : Tests → List ℕ → ℕ
word_place_by t s = cond (first_is t.key s) (run t.part s + value_place (drop (run t.part s) s)) 0

unfoldable pub place_by : Tests → List ℕ → ℕ
place_by t [] = 0
place_by t (b ∷ s) =
    cond (eqb b colon) (suc (tag_place_by t s))
    (cond (is_in (hash ∷ dot ∷ []) b) (suc (name_place_by t s))
    (word_place_by t (b ∷ s)))

-- the token of s at a
abbrev pub token_by : Tests → Mode → List ℕ → ℕ → Token
token_by t m s a = shown a (a + place_by t (drop a s)) (first_by t m (drop a s))
