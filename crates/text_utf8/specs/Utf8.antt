-- Character boundaries, and the count of characters.
use Rattle.std.specs.Prelude.{ℕ, suc, Bool, cond, not, ◌&&◌, List, [], ◌∷◌, leb, length, get_or}
use Rattle.base_bytes.specs.Bytes.{is_tail}

-- "on character boundaries": the place is the text's end, or a byte stands there that goes on no character.
-- In well-formed text these are the places that part it into whole characters.
unfoldable pub is_boundary : List ℕ → ℕ → Bool
is_boundary s i = leb i (length s) && not (is_tail (get_or s i 0))

-- how many characters well-formed text has: each is counted at its first byte
unfoldable pub char_count : List ℕ → ℕ
char_count [] = 0
char_count (b ∷ s) = cond (is_tail b) (char_count s) (suc (char_count s))
