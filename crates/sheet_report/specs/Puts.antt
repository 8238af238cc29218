-- Text put into lent memory, as the functions promise it that lay a line, here and in sheet_listing.
use Rattle.std.specs.Prelude.{ℕ, ◌+◌, ◌≡◌, List, ◌∷◌, ◌++◌, length}
use Rattle.std.proofs.lemmas.List.Edits.{sets}
use Rattle.text_digits.specs.Decimal.{decimal}
use Rattle.base_bytes.specs.Bytes.{tab}

-- xs put at `at` of buf: where it ends, and what then stands there
pub record PutAt (buf : List ℕ) (at : ℕ) (xs : List ℕ) (end : ℕ) (after : List ℕ) : Type 0 where
  pub behind : end ≡ at + length xs
  pub content : after ≡ sets buf at xs

-- a word, the first line and the line count
unfoldable pub line_front : List ℕ → ℕ → ℕ → List ℕ
line_front word n k = word ++ ((tab ∷ decimal n) ++ (tab ∷ decimal k))
