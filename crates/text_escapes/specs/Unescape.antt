-- "`unescape_title`: a backslash before an ASCII punctuation byte is dropped; any other stays (CommonMark 2.4)."
use Rattle.std.specs.Prelude.{ℕ, ◌+◌, Bool, true, false, cond, ◌&&◌, List, [], ◌∷◌, eqb, leb, length, get_or, None, Option, Some}
use Rattle.std.proofs.lemmas.List.Edits.{sets}
use Rattle.base_refusals.specs.Numbers.{Paper, passed_paper}
use Rattle.base_bytes.specs.Bytes.{is_punct, backslash}

-- true: a backslash stands just before, and what becomes of it is open
unfoldable pub unescape_from : Bool → List ℕ → List ℕ
unescape_from false [] = []
unescape_from true [] = backslash ∷ []
unescape_from false (b ∷ s) = cond (eqb b backslash) (unescape_from true s) (b ∷ unescape_from false s)
unescape_from true (b ∷ s) = cond (is_punct b) (b ∷ unescape_from false s) (backslash ∷ (b ∷ unescape_from false s))

-- the text that a raw text stands for
unfoldable pub unescape : List ℕ → List ℕ
unescape s = unescape_from false s

-- ---- the same a byte at a time, with its place in the raw text

-- a backslash at i has ASCII punctuation behind it
unfoldable pub is_pair : List ℕ → ℕ → Bool
is_pair s i = eqb (get_or s i 0) backslash && is_punct (get_or s (i + 1) 0)

-- the first byte of what the raw text from i on stands for, and where the next one stands
unfoldable pub piece_at : List ℕ → ℕ → Option (ℕ × ℕ)
piece_at s i =
    cond (leb (length s) i) None
    (cond (is_pair s i) (Some (get_or s (i + 1) 0, i + 2))
    (Some (get_or s i 0, i + 1)))

-- on paper: the byte and where the next one stands, or that there is none
abbrev pub piece_paper : Option (ℕ × ℕ) → Paper
piece_paper None = passed_paper []
piece_paper (Some (b, next)) = passed_paper (b ∷ next ∷ [])

-- ---- writing

-- n bytes have room from `at` on in a buffer of the given size
unfoldable pub fits : ℕ → ℕ → ℕ → Bool
fits size at n = leb (at + n) size

-- what is answered where xs is to be written from `at` on: the place behind it, or that it has no room
unfoldable pub written_to : List ℕ → ℕ → List ℕ → Option ℕ
written_to buf at xs = cond (fits (length buf) at (length xs)) (Some (at + length xs)) None

abbrev pub written_paper : Option ℕ → Paper
written_paper None = passed_paper []
written_paper (Some e) = passed_paper (e ∷ [])

-- what stands in the buffer then: xs from `at` on and the rest as it was, or all as it was
unfoldable pub content_of : List ℕ → ℕ → List ℕ → List ℕ
content_of buf at xs = cond (fits (length buf) at (length xs)) (sets buf at xs) buf
