-- Reading at a brace with the language tag looked at: "A strict reading, chosen by the caller beside the blank mode, checks every `lang` value of the finished
-- set against well-formedness in RFC 5646 section 2.1". Its rules: proved_tags/specs/Rules.
use Rattle.std.specs.Prelude.{ℕ, suc, Bool, true, cond, List, [], ◌∷◌, eqb, None, Option, Some}
use Rattle.base_lists.specs.Lists.{all, same}
use Rattle.base_bytes.specs.declared.Mode.{Mode}
use Rattle.base_refusals.specs.Numbers.{too_long, number_of}
use Rattle.base_refusals.specs.Orders.{Ground, order_no}
use Rattle.base_refusals.specs.declared.Refusal.TheVariants.{TextTooLong, NotUtf8, NothingThere, NoReading, BadTag}
use Rattle.text_utf8.specs.Computed.{is_utf8}
use Rattle.text_escapes.specs.Unescape.{unescape}
use Rattle.text_langtags.specs.Computed.{is_allowed}
use Rattle.block_grammar.specs.Grammar.{Item, Placed, Reading}
use Rattle.block_grammar.specs.Computed.{read_payload}
use Rattle.block_grammar.specs.ComputedClose.{find_close}
use Rattle.block_grammar.specs.Meaning.{lang_name}
use Rattle.set_table.specs.Types.{Texts, one}
use Rattle.set_fill.specs.Fill.{reading_order}
use Rattle.read_brace.specs.Brace.{refusing_read, brace_at, payload_of, at_brace, read_attrs_at, close_order, brace_order, place_to}
use Rattle.read_brace.specs.declared.Read.{Read}
use Rattle.read_tags.specs.declared.Tags.{Tags}
use Rattle.read_tags.specs.declared.Tags.TheVariants.{Any, WellFormed}

-- ---- the value of `lang` that counts

-- what an item gives it, one value or none: "`:` .. sets key `lang`", and a key may be named so; a quoted value counts unescaped
unfoldable pub lang_of : Item → List (List ℕ)
lang_of (Item.tag t) = t ∷ []
lang_of (Item.id n) = []
lang_of (Item.class n) = []
lang_of (Item.plain k v) = cond (same k lang_name) (v ∷ []) []
lang_of (Item.quoted k q v) = cond (same k lang_name) (unescape v ∷ []) []
lang_of (Item.bare n) = cond (same n lang_name) ([] ∷ []) []

-- what was said before, unless something new is
abbrev pub unless_new : List (List ℕ) → List (List ℕ) → List (List ℕ)
unless_new [] old = old
unless_new (v ∷ vs) old = v ∷ vs

-- "The last .. value of a key win[s]", where `old` was said before
unfoldable pub lang_after : List (List ℕ) → List Placed → List (List ℕ)
lang_after old [] = old
lang_after old (p ∷ is) = lang_after (unless_new (lang_of p.item) old) is

-- "The empty tag stays allowed"
unfoldable pub tag_passes : List Placed → Bool
tag_passes is = all is_allowed (lang_after [] is)

-- ---- "13 not well-formed, in strict reading, after 5 and before 6": where no reading exists there is nothing to look at

abbrev pub passed_by : Reading → Bool
passed_by Reading.refused = true
passed_by (Reading.items is) = tag_passes is

abbrev pub tag_to : Mode → List ℕ → ℕ → Option ℕ → Bool
tag_to m t i None = true
tag_to m t i (Some e) = cond (is_utf8 (payload_of t i e)) (passed_by (read_payload m (suc i) (payload_of t i e))) true

unfoldable pub tag_at : Mode → List ℕ → ℕ → Bool
tag_at m t i = at_brace true true (tag_to m t i) t i

-- "Ordinary reading doesn't change"
unfoldable pub read_tagged : Tags → Mode → List ℕ → ℕ → Read
read_tagged Any m t i = read_attrs_at m t i
read_tagged WellFormed m t i = cond (tag_at m t i) (read_attrs_at m t i) (refusing_read BadTag)

-- ---- at a brace 1, 3, 4, 2, 5, 13, 6, 7

abbrev pub tagged_reading : Texts → Reading → List Ground
tagged_reading t Reading.refused = reading_order t Reading.refused
tagged_reading t (Reading.items is) = Ground.lacking BadTag (tag_passes is) ∷ reading_order t (Reading.items is)

abbrev pub tagged_close : Mode → List ℕ → ℕ → Option ℕ → List Ground
tagged_close m t i None = close_order m t i None
tagged_close m t i (Some e) = Ground.lacking NotUtf8 (is_utf8 (payload_of t i e)) ∷ tagged_reading (one t) (read_payload m (suc i) (payload_of t i e))

abbrev pub tagged_order : Tags → Mode → List ℕ → ℕ → List Ground
tagged_order Any m t i = brace_order m t i
tagged_order WellFormed m t i = Ground.given TextTooLong (too_long t) ∷ Ground.lacking NothingThere (brace_at t i) ∷ tagged_close m t i (find_close t (suc i))

-- "Refusal 5 at a brace shall carry a place": said with a 5 of this order too
unfoldable pub tagged_place_at : Tags → Mode → List ℕ → ℕ → ℕ
tagged_place_at g m t i = cond (eqb (order_no (tagged_order g m t i)) (number_of NoReading)) (place_to m t i (find_close t (suc i))) 0
