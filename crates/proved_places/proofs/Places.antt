-- The places of names, tags, tokens and payloads: the longest prefixes that can be continued, on boundaries, and what the test answers.
-- Assumes nothing.
use Rattle.std.specs.Prelude.{Err}
use mathlib.Core.Path.{◌≡◌, refl}
use mathlib.Core.Bool.{Bool, true, false}
use mathlib.Core.List.{List}
use Prim.Native.Nat.{ℕ}
use native.Mathlib.Omega.{arith}
use Rattle.base_lists.specs.Lists.{all, run, headed, is_in}
use Rattle.base_lists.proofs.More.{contra}
use Rattle.base_bytes.specs.declared.Mode.{Mode}
use Rattle.base_bytes.specs.Bytes.{is_blank, within, is_letter, is_digit, is_alnum, is_name_start, is_name_part, is_key_start, is_quote, is_plain}
use Rattle.text_names.specs.Names.{is_name, is_key, is_bare_name}
use Rattle.text_names.specs.Computed.{is_size, tag_from, language_by, is_language}
use Rattle.text_names.proofs.NamePlaces as names
use Rattle.text_names.proofs.TagPlaces as tags
use Rattle.text_names.proofs.Told.{whole_is, stops_is}
use Rattle.block_grammar.specs.Grammar.{Reading, is_value}
use Rattle.block_grammar.specs.Computed.{ends, finish, shut_of, value_token, after_name, token_of, text, read_from, read_payload}
use Rattle.block_grammar.proofs.Payload as payload
use Rattle.block_places.specs.Rules.{HasReading}
use Rattle.block_places.specs.Computed.{turn_of, walk_passes, payload_place}
use Rattle.block_places.proofs.Place as place
use Rattle.block_places.proofs.Boundary as boundary
use Rattle.block_tokens.specs.Shown.{accepted, payload_tested}
use Rattle.proved_places.specs.Places.{NamesAreLongest, TagsAreLongest, TokenIsLongest, PayloadIsLongest, OnePlace, StopsIsWrong, WrongStops, WholeIsRead, ReadIsWhole, PlaceIsBoundary, LongestOnBoundary, CasesHold}

pub names_longest : (s : List ℕ) → NamesAreLongest s
names_longest s = (names.name_longest s, (names.key_longest s, names.bare_longest s))

pub tags_longest : (s : List ℕ) → TagsAreLongest s
tags_longest s = (tags.tag_longest s, tags.language_longest s)

pub token_longest : TokenIsLongest
token_longest = place.token_longest

pub payload_longest : PayloadIsLongest
payload_longest = place.place_longest

pub one_place : (L : List ℕ → Type 0) (s : List ℕ) (n k : ℕ) → OnePlace L s n k
one_place L s n k p q = omega (arith, p.longest k q.within q.goes, q.longest n p.within p.goes)

pub on_boundary : PlaceIsBoundary
on_boundary = boundary.place_boundary

pub longest_on_boundary : LongestOnBoundary
longest_on_boundary m s k u h b c = (payload_longest m s).longest k h c

-- ---- what the test answers
is_read : (m : Mode) (s : List ℕ) → accepted (read_payload m 0 s) ≡ true → HasReading m s
is_read m s e = go (read_payload m 0 s) refl e
  where
    go : (r : Reading) → read_payload m 0 s ≡ r → accepted r ≡ true → HasReading m s
    go Reading.refused p e = contra false e refl
    go (Reading.items is) p e = record { items = is; payload = payload.sound m 0 s is p }

read_is : (m : Mode) (s : List ℕ) → HasReading m s → accepted (read_payload m 0 s) ≡ true
read_is m s h = rw (payload.complete h.payload)

pub whole_read : WholeIsRead
whole_read m s e = is_read m s (whole_is (accepted (read_payload m 0 s)) (payload_place m s) e)

pub read_whole : ReadIsWhole
read_whole m s h = rw (read_is m s h)

pub stops_wrong : StopsIsWrong
stops_wrong m s n e =
    let z = stops_is (accepted (read_payload m 0 s)) (payload_place m s) e in
    record { none = λ h. contra (accepted (read_payload m 0 s)) (read_is m s h) z.0; longest = rw z.1 (place.place_longest m s) }

pub wrong_stops : WrongStops
wrong_stops m s n w = go (accepted (read_payload m 0 s)) refl
  where
    go : (x : Bool) → accepted (read_payload m 0 s) ≡ x → payload_tested m s ≡ Err n
    go true p = absurd (w.none (is_read m s p))
    go false p = rw (p, one_place (HasReading m) s n (payload_place m s) w.longest (place.place_longest m s))

-- ---- the examples
pub cases_hold : CasesHold
unfolding is_blank within is_letter is_digit is_alnum is_name_start is_name_part is_key_start is_quote is_plain is_in turn_of walk_passes payload_place all run headed is_name is_key is_bare_name is_size tag_from language_by is_language is_value ends finish shut_of value_token after_name token_of text read_from read_payload
cases_hold = refl
