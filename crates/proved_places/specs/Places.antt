-- "the length in bytes of the longest prefix of the payload, ending on a character boundary, that can still be continued to an acceptable payload in the same mode."
-- By the rule it is `Longest` (text_names/specs/Longest), over the grammar's own types; the tests compute it.
use Rattle.std.specs.Prelude.{◌≡◌, Bool, true, not, ◌&&◌, List, [], ◌∷◌, ◌++◌, map, ℕ, ◌≤◌, eqb, ltb, length, take, Err, Ok, Some}
use Rattle.base_lists.specs.Lists.{all}
use Rattle.base_bytes.specs.declared.Mode.{Mode}
use Rattle.base_bytes.specs.declared.Mode.TheVariants.{Strict}
use Rattle.base_bytes.specs.Bytes.{close_brace, lf}
use Rattle.text_utf8.specs.Utf8.{is_boundary}
use Rattle.text_utf8.specs.Computed.{is_utf8}
use Rattle.text_names.specs.Longest.{CanGoOn, Longest}
use Rattle.text_names.specs.Names.{is_name, is_key, is_bare_name, name_place, key_place, bare_place}
use Rattle.text_names.specs.Grammar.{Tag, Language}
use Rattle.text_names.specs.Computed.{tag_place}
use Rattle.block_grammar.specs.Close.{no_lf}
use Rattle.block_grammar.specs.ComputedClose.{find_close}
use Rattle.block_places.specs.Rules.{HasReading, HasToken}
use Rattle.block_places.specs.Computed.{payload_place, token_place}
use Rattle.block_tokens.specs.Shown.{payload_tested}

-- ---- "The name, tag and token tests must now answer places"

-- the places of the three names, ..
abbrev pub NamesAreLongest : List ℕ → Type 0
NamesAreLongest s = Longest (λ t. is_name t ≡ true) s (name_place s) × (Longest (λ t. is_key t ≡ true) s (key_place s) × Longest (λ t. is_bare_name t ≡ true) s (bare_place s))

-- .. of a tag, and of what stands behind `:`, ..
abbrev pub TagsAreLongest : List ℕ → Type 0
TagsAreLongest s = Longest Tag s (tag_place s) × Longest Language s (tag_place s)

-- .. and of a token
abbrev pub TokenIsLongest : Type 0
TokenIsLongest = (s : List ℕ) → Longest HasToken s (token_place s)

-- ---- "Refusal 5 at a brace shall carry a place"

abbrev pub PayloadIsLongest : Type 0
PayloadIsLongest = (m : Mode) (s : List ℕ) → Longest (HasReading m) s (payload_place m s)

-- there is one such place
abbrev pub OnePlace : (List ℕ → Type 0) → List ℕ → ℕ → ℕ → Type 0
OnePlace L s n k = Longest L s n → Longest L s k → n ≡ k

-- the test answers it where there is no reading, and there alone
pub record WrongAt (m : Mode) (s : List ℕ) (n : ℕ) : Type 0 where
  pub none : HasReading m s → ⊥
  pub longest : Longest (HasReading m) s n

abbrev pub StopsIsWrong : Type 0
StopsIsWrong = (m : Mode) (s : List ℕ) (n : ℕ) → Err n ≡ payload_tested m s → WrongAt m s n

abbrev pub WrongStops : Type 0
WrongStops = (m : Mode) (s : List ℕ) (n : ℕ) → WrongAt m s n → payload_tested m s ≡ Err n

abbrev pub WholeIsRead : Type 0
WholeIsRead = (m : Mode) (s : List ℕ) → Ok tt ≡ payload_tested m s → HasReading m s

abbrev pub ReadIsWhole : Type 0
ReadIsWhole = (m : Mode) (s : List ℕ) → HasReading m s → payload_tested m s ≡ Ok tt

-- "ending on a character boundary": in well-formed text the place is one, ..
abbrev pub PlaceIsBoundary : Type 0
PlaceIsBoundary = (m : Mode) (s : List ℕ) → is_utf8 s ≡ true → is_boundary s (payload_place m s) ≡ true

-- .. and of the prefixes that end on one it is the longest
abbrev pub LongestOnBoundary : Type 0
LongestOnBoundary = (m : Mode) (s : List ℕ) (k : ℕ) → is_utf8 s ≡ true → k ≤ length s → is_boundary s k ≡ true → CanGoOn (HasReading m) (take k s) → k ≤ payload_place m s

-- ---- ".. in the same mode", at a brace: the prefix goes on by ASCII bytes that are neither LF nor `}`, and the block then closes behind them;
-- while by `PayloadIsLongest` no longer prefix goes on even by bytes that no block could hold

unfoldable pub is_harmless : ℕ → Bool
is_harmless b = ltb b 128 && (not (eqb b lf) && not (eqb b close_brace))

pub record GoesOnAtABrace (m : Mode) (p : List ℕ) : Type 0 where
  pub rest : List ℕ
  pub harmless : all is_harmless rest ≡ true
  pub reading : HasReading m (p ++ rest)
  pub closes : (t : List ℕ) → no_lf p ≡ true → find_close ((p ++ rest) ++ (close_brace ∷ t)) 0 ≡ Some (length (p ++ rest))

abbrev pub PrefixGoesOnAtABrace : Type 0
PrefixGoesOnAtABrace = (m : Mode) (s : List ℕ) → GoesOnAtABrace m (take (payload_place m s) s)

-- ---- examples: the bytes between the braces, strictly read, and their place
pub record PlaceCase : Type 0 where
  pub bytes : List ℕ
  pub place : ℕ

abbrev case : List ℕ → ℕ → PlaceCase
case b n = record { bytes = b; place = n }

-- `{a=}` 2, `{}` 0, `{ }` 1, `{:abcdefghi}` 9, `{_a}` 2, `{_a b}` 2, `{_}` 1, `{:a-}` 3, `{:a--b}` 3, `{:-}` 1, `{#-}` 1, `{a="1"b}` 5, `{a=b"c"}` 3, `{a= b}` 2, `{a\}}` 1, `{\"}` 0,
-- `{"}"}` 0, `{é}` 0, `{:aé}` 2, `{a=é\ }` 4, a tab behind `a` 1, a CR behind `a` 1, `{a="T" =}` with a tab for `T` 6, `{x =}` 2, `{:1 =}` 3, a CR behind `a=` 2
abbrev pub place_cases : List PlaceCase
place_cases =
    case (97 ∷ 61 ∷ []) 2
    ∷ case [] 0
    ∷ case (32 ∷ []) 1
    ∷ case (58 ∷ 97 ∷ 98 ∷ 99 ∷ 100 ∷ 101 ∷ 102 ∷ 103 ∷ 104 ∷ 105 ∷ []) 9
    ∷ case (95 ∷ 97 ∷ []) 2
    ∷ case (95 ∷ 97 ∷ 32 ∷ 98 ∷ []) 2
    ∷ case (95 ∷ []) 1
    ∷ case (58 ∷ 97 ∷ 45 ∷ []) 3
    ∷ case (58 ∷ 97 ∷ 45 ∷ 45 ∷ 98 ∷ []) 3
    ∷ case (58 ∷ 45 ∷ []) 1
    ∷ case (35 ∷ 45 ∷ []) 1
    ∷ case (97 ∷ 61 ∷ 34 ∷ 49 ∷ 34 ∷ 98 ∷ []) 5
    ∷ case (97 ∷ 61 ∷ 98 ∷ 34 ∷ 99 ∷ 34 ∷ []) 3
    ∷ case (97 ∷ 61 ∷ 32 ∷ 98 ∷ []) 2
    ∷ case (97 ∷ 92 ∷ 125 ∷ []) 1
    ∷ case (92 ∷ 34 ∷ []) 0
    ∷ case (34 ∷ 125 ∷ 34 ∷ []) 0
    ∷ case (195 ∷ 169 ∷ []) 0
    ∷ case (58 ∷ 97 ∷ 195 ∷ 169 ∷ []) 2
    ∷ case (97 ∷ 61 ∷ 195 ∷ 169 ∷ 92 ∷ 32 ∷ []) 4
    ∷ case (97 ∷ 9 ∷ []) 1
    ∷ case (97 ∷ 13 ∷ []) 1
    ∷ case (97 ∷ 61 ∷ 34 ∷ 9 ∷ 34 ∷ 32 ∷ 61 ∷ []) 6
    ∷ case (120 ∷ 32 ∷ 61 ∷ []) 2
    ∷ case (58 ∷ 49 ∷ 32 ∷ 61 ∷ []) 3
    ∷ case (97 ∷ 61 ∷ 13 ∷ []) 2
    ∷ []

abbrev pub CasesHold : Type 0
CasesHold = map (λ c. payload_tested Strict c.bytes) place_cases ≡ map (λ c. Err c.place) place_cases
