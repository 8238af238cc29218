-- A token by ranges of the text, as the code hands it out.
use Rattle.std.specs.Prelude.{Bool, true, false, List, [], ◌∷◌, ℕ, ◌+◌, length, drop, None, Option, Result, Some}
use Rattle.base_refusals.specs.Numbers.{Paper, passed_paper}
use Rattle.base_bytes.specs.declared.Mode.{Mode}
use Rattle.block_grammar.specs.Grammar.{Item, Reading}
use Rattle.block_grammar.specs.Computed.{First, token_of, read_payload}
use Rattle.text_names.specs.Tested.{tested}
use Rattle.block_places.specs.Computed.{payload_place, token_place}
use Rattle.block_tokens.specs.declared.Token.{Token}

-- the ranges of an item whose token's first byte stands at a
unfoldable pub shown_item : ℕ → Item → Token
shown_item a (Item.tag t) = Token.Tag (a + 1) (a + 1 + length t)
shown_item a (Item.id n) = Token.Id (a + 1) (a + 1 + length n)
shown_item a (Item.class n) = Token.Class (a + 1) (a + 1 + length n)
shown_item a (Item.plain k v) = Token.Plain a (a + length k) (a + length k + 1 + length v)
shown_item a (Item.quoted k q v) = Token.Quoted a (a + length k) (a + length k + 3 + length v)
shown_item a (Item.bare n) = Token.Bare a (a + length n)

-- where there is none, the place n at which the bytes can no longer be continued to one
unfoldable pub shown : ℕ → ℕ → First → Token
shown a n First.none = Token.Bad n
shown a n (First.token i) = shown_item a i

-- the token of s at a
abbrev pub token_at : Mode → List ℕ → ℕ → Token
token_at m s a = shown a (a + token_place (drop a s)) (token_of m (drop a s))

-- the place behind a token
abbrev pub token_end : Token → Option ℕ
token_end (Token.Bad n) = None
token_end (Token.Tag f e) = Some e
token_end (Token.Id f e) = Some e
token_end (Token.Class f e) = Some e
token_end (Token.Plain f k e) = Some e
token_end (Token.Quoted f k e) = Some e
token_end (Token.Bare f e) = Some e

-- on paper: the kind of a token and its places, or 0 and where the bytes stop being one, for which document 01 has no number
abbrev pub token_paper : Token → Paper
token_paper (Token.Bad n) = passed_paper (0 ∷ n ∷ [])
token_paper (Token.Tag f e) = passed_paper (1 ∷ f ∷ e ∷ [])
token_paper (Token.Id f e) = passed_paper (2 ∷ f ∷ e ∷ [])
token_paper (Token.Class f e) = passed_paper (3 ∷ f ∷ e ∷ [])
token_paper (Token.Plain f k e) = passed_paper (4 ∷ f ∷ k ∷ e ∷ [])
token_paper (Token.Quoted f k e) = passed_paper (5 ∷ f ∷ k ∷ e ∷ [])
token_paper (Token.Bare f e) = passed_paper (6 ∷ f ∷ e ∷ [])

-- whether there is a reading
abbrev pub accepted : Reading → Bool
accepted Reading.refused = false
accepted (Reading.items is) = true

-- "no reading of the payload exists", with the place: whole where there is one
abbrev pub payload_tested : Mode → List ℕ → Result (Unit {0}) ℕ
payload_tested m s = tested (accepted (read_payload m 0 s)) (payload_place m s)
