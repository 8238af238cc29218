-- A payload by a walk over its bytes with a small state: how far they can be continued to a payload, and to a token.
-- By the rule: `Longest` of text_names/specs/Longest, over the languages of Rules; the two are proved to agree (proved_places/specs/Places).
use Rattle.std.specs.Prelude.{Bool, true, false, cond, ◌&&◌, List, [], ◌∷◌, ℕ, suc, eqb, leb, ltb}
use Rattle.base_bytes.specs.declared.Mode.{Mode}
use Rattle.base_bytes.specs.Bytes.{is_blank, is_letter, is_alnum, is_name_start, is_name_part, is_key_start, is_quote, is_plain, backslash, colon, dot, equals, hash, hyphen}
use Rattle.base_lists.specs.Lists.{is_in}

-- before a token, and whether one was read; in a tag, with k bytes of the present subtag, and whether it may end here; behind `#` or `.`; in the name behind that;
-- in a key or bare name, and whether it may end here; behind `=`; in a plain value; in a quote, and whether a backslash covers the next byte; behind the closing quote
pub data Spot : Type 0 where
  edge : Bool → Spot
  tag : ℕ → Bool → Spot
  sigil : Spot
  name : Spot
  word : Bool → Spot
  due : Spot
  plain : Spot
  quoted : ℕ → Bool → Spot
  shut : Spot

-- whether the payload may end here
unfoldable pub may_end : Spot → Bool
may_end (Spot.edge some) = some
may_end (Spot.tag k ok) = ok
may_end Spot.sigil = false
may_end Spot.name = true
may_end (Spot.word ok) = ok
may_end Spot.due = false
may_end Spot.plain = true
may_end (Spot.quoted q e) = false
may_end Spot.shut = true

pub data Turn : Type 0 where
  stop : Turn
  go : Spot → Turn

abbrev pub go_if : Bool → Spot → Turn
go_if b st = cond b (Turn.go st) Turn.stop

-- a byte that begins a token
abbrev pub opening_turn : ℕ → Turn
opening_turn b =
    cond (eqb b colon) (Turn.go (Spot.tag 0 true))
    (cond (is_in (hash ∷ dot ∷ []) b) (Turn.go Spot.sigil)
    (go_if (is_key_start b) (Spot.word (is_letter b))))

-- a byte in a quote
abbrev pub quoted_turn : ℕ → Bool → ℕ → Turn
quoted_turn q true b = Turn.go (Spot.quoted q false)
quoted_turn q false b = cond (eqb b q) (Turn.go Spot.shut) (Turn.go (Spot.quoted q (eqb b backslash)))

-- a byte that is no blank, outside quotes
abbrev pub solid_turn : Spot → ℕ → Turn
solid_turn (Spot.edge some) b = opening_turn b
solid_turn (Spot.tag k ok) b = cond (is_alnum b) (go_if (ltb k 8) (Spot.tag (suc k) true)) (go_if (eqb b hyphen && leb 1 k) (Spot.tag 0 false))
solid_turn Spot.sigil b = go_if (is_name_start b) Spot.name
solid_turn Spot.name b = go_if (is_name_part b) Spot.name
solid_turn (Spot.word ok) b = cond (is_name_part b) (Turn.go (Spot.word ok)) (go_if (eqb b equals) Spot.due)
solid_turn Spot.due b = cond (is_quote b) (Turn.go (Spot.quoted b false)) (go_if (is_plain b) Spot.plain)
solid_turn Spot.plain b = go_if (is_plain b) Spot.plain
solid_turn (Spot.quoted q e) b = quoted_turn q e b
solid_turn Spot.shut b = Turn.stop

-- a blank
abbrev pub blank_turn : Spot → ℕ → Turn
blank_turn (Spot.edge some) b = Turn.go (Spot.edge some)
blank_turn (Spot.tag k ok) b = go_if ok (Spot.edge true)
blank_turn Spot.sigil b = Turn.stop
blank_turn Spot.name b = Turn.go (Spot.edge true)
blank_turn (Spot.word ok) b = go_if ok (Spot.edge true)
blank_turn Spot.due b = Turn.stop
blank_turn Spot.plain b = Turn.go (Spot.edge true)
blank_turn (Spot.quoted q e) b = quoted_turn q e b
blank_turn Spot.shut b = Turn.go (Spot.edge true)

-- .. where `parts` tells the bytes that part two tokens
unfoldable pub turn_of : (ℕ → Bool) → Spot → ℕ → Turn
turn_of parts st b = cond (parts b) (blank_turn st b) (solid_turn st b)

-- ---- the walk

abbrev pub onward : {A : Type 0} → A → (Spot → A) → Turn → A
onward dead rest Turn.stop = dead
onward dead rest (Turn.go st) = rest st

-- what follows the spot is the rest of a payload
unfoldable pub walk_takes : (ℕ → Bool) → Spot → List ℕ → Bool
walk_takes parts st [] = may_end st
walk_takes parts st (b ∷ s) = onward false (λ v. walk_takes parts v s) (turn_of parts st b)

-- how many bytes the walk passes
unfoldable pub walk_passes : (ℕ → Bool) → Spot → List ℕ → ℕ
walk_passes parts st [] = 0
walk_passes parts st (b ∷ s) = onward 0 (λ v. suc (walk_passes parts v s)) (turn_of parts st b)

-- "the length in bytes of the longest prefix of the payload .. that can still be continued to an acceptable payload in the same mode": where the walk stops
unfoldable pub payload_place : Mode → List ℕ → ℕ
payload_place m s = walk_passes (is_blank m) (Spot.edge false) s

-- the place of a token: where nothing parts, the walk stays in the first one
abbrev pub nothing_parts : ℕ → Bool
nothing_parts b = false

unfoldable pub token_place : List ℕ → ℕ
token_place s = walk_passes nothing_parts (Spot.edge false) s
