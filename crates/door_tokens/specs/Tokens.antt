-- What a caller from C or Rust is told of a payload's place, and of the tokens that a walker gives.
use Rattle.std.specs.Prelude.{ℕ, Bool, false, not, List, [], ◌∷◌, ltb, None, Option, Some}
use Rattle.text_lines.specs.declared.Range.{Range}
use Rattle.block_tokens.specs.declared.Token.{Token}
use Rattle.block_next_token.specs.Walk.{is_bad}
use Rattle.block_next_token.specs.declared.Step.{Step}
use Rattle.door_tokens.specs.declared.Shape.{Shape}

-- "on a refusal as the empty part at the text's front": a payload stands behind its brace, so not at the front
abbrev pub is_payload : Range → Bool
is_payload r = ltb 0 r.from

abbrev pub range_told : Range → List ℕ
range_told r = r.from ∷ r.to ∷ []

-- ---- "a walker that holds the text and its place gives the next token"

abbrev pub is_token : Option Token → Bool
is_token None = false
is_token (Some t) = not (is_bad t)

abbrev pub shape : ℕ → ℕ → ℕ → Shape
shape k from to = record { kind = k; from = from; to = to }

-- what a token is, and where its name stands: a tag, an id, a class, a key with a value without quotes or in them, a bare name; 0 where the bytes are none, with
-- the place at which they stop being one
abbrev pub token_shape : Token → Shape
token_shape (Token.Bad n) = shape 0 n n
token_shape (Token.Tag f e) = shape 1 f e
token_shape (Token.Id f e) = shape 2 f e
token_shape (Token.Class f e) = shape 3 f e
token_shape (Token.Plain f k e) = shape 4 f k
token_shape (Token.Quoted f k e) = shape 5 f k
token_shape (Token.Bare f e) = shape 6 f e

-- 7 at the end
abbrev pub ahead_shape : Option Token → ℕ → Shape
ahead_shape None at = shape 7 at at
ahead_shape (Some t) at = token_shape t

abbrev pub shape_told : Shape → ℕ → List ℕ
shape_told s at = s.kind ∷ s.from ∷ s.to ∷ at ∷ []

-- and the place behind it
abbrev pub step_told : Step → List ℕ
step_told s = shape_told (ahead_shape s.ahead s.at) s.at
