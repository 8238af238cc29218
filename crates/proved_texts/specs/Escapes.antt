-- "`unescape_title`: a backslash before an ASCII punctuation byte is dropped; any other stays (CommonMark 2.4)." The rules are in EscapeRules.
use Rattle.std.specs.Prelude.{◌≡◌, List, [], ◌∷◌, ℕ, drop, None, Some}
use Rattle.proved_texts.specs.EscapeRules.{StandsFor}
use Rattle.text_escapes.specs.Unescape.{unescape, piece_at}

-- CommonMark 2.4: "Any ASCII punctuation character may be backslash-escaped", "Backslashes before other characters are treated as literal backslashes".
-- By these rules a raw text stands for its unescaping, ..
abbrev pub StandsForUnescaped : Type 0
StandsForUnescaped = (s : List ℕ) → StandsFor s (unescape s)

-- .. and for nothing else
abbrev pub StandsForNoOther : List ℕ → List ℕ → Type 0
StandsForNoOther s t = StandsFor s t → unescape s ≡ t

-- the same a byte at a time: a byte of it, and then that of the raw text from `next` on, ..
abbrev pub PieceIsNext : Type 0
PieceIsNext = (s : List ℕ) (i b next : ℕ) → piece_at s i ≡ Some (b, next) → unescape (drop i s) ≡ b ∷ unescape (drop next s)

-- .. or nothing more
abbrev pub PieceIsLast : Type 0
PieceIsLast = (s : List ℕ) (i : ℕ) → piece_at s i ≡ None → unescape (drop i s) ≡ []
