-- "`trim_ascii` and its two halves drop space, tab, LF, FF, CR. `is_blank_line`: nothing remains after that."
use Rattle.std.specs.Prelude.{ℕ, ◌+◌, Bool, cond, List, [], ◌∷◌, eqb, length}
use Rattle.base_lists.specs.Lists.{all, run}
use Rattle.base_bytes.specs.Bytes.{is_space}
use Rattle.text_lines.specs.declared.Range.{Range}

-- without the whitespace at the front
unfoldable pub trim_start : List ℕ → List ℕ
trim_start [] = []
trim_start (b ∷ s) = cond (is_space b) (trim_start s) (b ∷ s)

-- without the whitespace at the end: a byte stays where it, or one behind it, is no whitespace
unfoldable pub trim_end : List ℕ → List ℕ
trim_end [] = []
trim_end (b ∷ s) = cond (all is_space (b ∷ s)) [] (b ∷ trim_end s)

-- "`trim_ascii`": without the whitespace at both ends
unfoldable pub trim : List ℕ → List ℕ
trim s = trim_end (trim_start s)

-- "`is_blank_line`: nothing remains after that."
unfoldable pub is_blank_line : List ℕ → Bool
is_blank_line s = eqb (length (trim s)) 0

-- where in s what remains stands: behind the whitespace at its front, as long as it is
unfoldable pub trim_range : List ℕ → Range
trim_range s = record { from = run is_space s; to = run is_space s + length (trim s) }
