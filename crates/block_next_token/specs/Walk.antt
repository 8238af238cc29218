-- "a walker that holds the text and its place gives the next token": one step, and what stands ahead.
use Rattle.std.specs.Prelude.{Bool, true, false, cond, List, [], ◌∷◌, ℕ, ◌+◌, leb, length, drop, None, Option, Some}
use Rattle.std.specs.Borrow.{Bor}
use Rattle.base_lists.specs.Lists.{run}
use Rattle.base_refusals.specs.Numbers.{Paper, passed_paper}
use Rattle.base_bytes.specs.declared.Mode.{Mode}
use Rattle.base_bytes.specs.Bytes.{is_blank}
use Rattle.block_grammar.specs.Grammar.{Placed, Reading}
use Rattle.block_tokens.specs.Shown.{shown_item, token_at, token_end, token_paper}
use Rattle.block_tokens.specs.declared.Token.{Token}
use Rattle.block_next_token.specs.declared.Step.{Step}
use Rattle.block_next_token.specs.declared.Walker.{Walker}

-- ---- one step

-- the place that was found, or else a
abbrev pub gone_to : ℕ → Option ℕ → ℕ
gone_to a None = a
gone_to a (Some e) = e

-- the bytes are no token
abbrev pub is_bad : Token → Bool
is_bad (Token.Bad n) = true
is_bad (Token.Tag f e) = false
is_bad (Token.Id f e) = false
is_bad (Token.Class f e) = false
is_bad (Token.Plain f k e) = false
is_bad (Token.Quoted f k e) = false
is_bad (Token.Bare f e) = false

abbrev pub step_over : ℕ → Token → Step
step_over a t = record { ahead = Some t; at = gone_to a (token_end t) }

-- a is behind the blanks: the end stands there, or a token
abbrev pub step_from : Mode → List ℕ → ℕ → Step
step_from m s a = cond (leb (length s) a) (record { ahead = None; at = a }) (step_over a (token_at m s a))

unfoldable pub step_at : Mode → List ℕ → ℕ → Step
step_at m s at = step_from m s (at + run (is_blank m) (drop at s))

-- ---- a walker

-- set down at a place of a text, and at its front
abbrev pub set_down : Bor (List ℕ) → ℕ → Mode → Walker
set_down x at m = record { text = x; at = at; mode = m }

abbrev pub at_front : Bor (List ℕ) → Mode → Walker
at_front x m = set_down x 0 m

abbrev pub walker_step : Walker → Step
walker_step w = step_at w.mode w.text.now w.at

-- what stands ahead of it
abbrev pub ahead_of : Walker → Option Token
ahead_of w = (walker_step w).ahead

-- .. and it goes behind that
abbrev pub gone : Walker → Walker
gone w = record { text = w.text; at = (walker_step w).at; mode = w.mode }

-- an item that was read, as a token
abbrev pub shown_placed : Placed → Token
shown_placed p = shown_item p.at p.item

-- how many items were read
abbrev pub counted : Reading → Option ℕ
counted Reading.refused = None
counted (Reading.items is) = Some (length is)

-- ---- on paper: what stands ahead, none at the end, before it the place behind it; or how many there are

abbrev pub ahead_paper : Option Token → Paper
ahead_paper None = passed_paper []
ahead_paper (Some t) = token_paper t

abbrev pub step_paper : Step → Paper
step_paper s = passed_paper (s.at ∷ (ahead_paper s.ahead).values)

abbrev pub count_paper : Option ℕ → Paper
count_paper None = passed_paper []
count_paper (Some n) = passed_paper (n ∷ [])
