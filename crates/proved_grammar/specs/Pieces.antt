-- "A class value, unescaped first if quoted, is split at the five ASCII whitespace bytes": a class is a range of the raw value.
use Rattle.std.specs.Prelude.{◌≡◌, List, [], ◌∷◌, ◌++◌, ℕ, ◌-◌, take, drop}
use Rattle.text_escapes.specs.Unescape.{unescape}
use Rattle.block_grammar.specs.Meaning.{PieceAt, piece_ranges}
use Rattle.proved_grammar.specs.Meaning.{pieces_from}

-- the bytes of ranges of w
abbrev pub cut : List ℕ → List PieceAt → List (List ℕ)
cut w [] = []
cut w (r ∷ rs) = take (r.to - r.from) (drop r.from w) ∷ cut w rs

-- a value v that stands in w at `at`: the ranges of its pieces have the pieces' bytes
abbrev pub PiecesByPlaces : Type 0
PiecesByPlaces = (w post v : List ℕ) (at : ℕ) → drop at w ≡ v ++ post → cut w (piece_ranges at at v) ≡ pieces_from [] v

-- each of them unescaped
abbrev pub unescapes : List (List ℕ) → List (List ℕ)
unescapes [] = []
unescapes (p ∷ ps) = unescape p ∷ unescapes ps

-- "unescaped first if quoted": the pieces of the unescaped value are those of the raw one, each unescaped
abbrev pub UnescapedFirst : Type 0
UnescapedFirst = (v : List ℕ) → pieces_from [] (unescape v) ≡ unescapes (pieces_from [] v)
