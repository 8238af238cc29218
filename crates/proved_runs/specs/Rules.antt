-- The last open brace by rules, bytes that stand nowhere outside quotes, and texts by characters.
use Rattle.std.specs.Prelude.{◌≡◌, Bool, true, cond, not, ◌&&◌, List, [], ◌∷◌, ◌++◌, ℕ, eqb, None, Option, Some}
use Rattle.base_bytes.specs.Bytes.{is_tail, open_brace, space, tab}
use Rattle.text_tabs.specs.Columns.{columns_from}
use Rattle.block_grammar.specs.declared.Scan.{Scan}
use Rattle.block_grammar.specs.Close.{fresh}
use Rattle.run_scanners.specs.Scanners.{passed, scan_from, ignored, is_bare}

-- the byte c stands nowhere outside quotes
unfoldable pub none_bare : ℕ → Scan → List ℕ → Bool
none_bare c st [] = true
none_bare c st (b ∷ s) = not (is_bare st b c) && none_bare c (passed ignored st b) s

-- the text with a space for each tab that a backslash covers
unfoldable pub tabs_spaced : Scan → List ℕ → List ℕ
tabs_spaced st [] = []
tabs_spaced st (b ∷ s) = cond (st.escaped && eqb b tab) space b ∷ tabs_spaced (passed ignored st b) s

-- "the last open brace's column": in s, where the scan begins in the state st and in column `start`, a `{` stands outside quotes in column n,
-- and none behind it
pub record LastBrace (st : Scan) (start : ℕ) (s : List ℕ) (n : ℕ) : Type 0 where
  pub before : List ℕ
  pub behind : List ℕ
  pub whole : s ≡ before ++ (open_brace ∷ behind)
  pub outside : is_bare (scan_from ignored st before) open_brace open_brace ≡ true
  pub last : none_bare open_brace fresh behind ≡ true
  pub column : n ≡ columns_from start (tabs_spaced st before)

-- the first byte of each character of a text
unfoldable pub leads : List (List ℕ) → List ℕ
leads [] = []
leads ([] ∷ ks) = leads ks
leads ((b ∷ k) ∷ ks) = b ∷ leads ks

-- the quote is no byte that goes on a character
abbrev pub is_sound : Option ℕ → Bool
is_sound None = true
is_sound (Some k) = not (is_tail k)
