-- Which lines are read again after an edit, by what they are. sheet_edits/specs/Edits computes them.
use Rattle.std.specs.Prelude.{ℕ, ◌+◌, ◌<◌, ◌≤◌, ◌≡◌, true, false, List, ◌⊎◌, length, take, drop}
use Rattle.block_trimmed_line.specs.Fronts.{begins_indented}
use Rattle.sheet_splits.specs.Parting.{is_whole}
use Rattle.sheet_edits.specs.Edits.{Replaced}

-- a line of the text begins at a place, with neither space nor tab
pub record FlatLine (t : List ℕ) (at : ℕ) : Type 0 where
  pub within : at < length t
  pub whole : is_whole (take at t) ≡ true
  pub flat : begins_indented (drop at t) ≡ false

-- the last such line of a text begins at p, or p is its front, where it has none
pub record LastFlat (t : List ℕ) (p : ℕ) : Type 0 where
  pub at : (p ≡ 0) ⊎ FlatLine t p
  pub last : (q : ℕ) → FlatLine t q → q ≤ p

-- the first such line from a place on begins at n, or n is the text's end, where it has none
pub record FirstFlat (t : List ℕ) (from n : ℕ) : Type 0 where
  pub at : (n ≡ length t) ⊎ FlatLine t n
  pub behind : from ≤ n
  pub first : (q : ℕ) → from ≤ q → FlatLine t q → n ≤ q

-- "mend after lines a to b were replaced": read again is from the last such line before line a, at p, up to the first such line of the new text behind the part that
-- stands in their place, at n; that is e of the old text, with as many bytes behind it
pub record ReadAgain (old new : List ℕ) (a b p e n : ℕ) : Type 0 where
  pub replaced : Replaced old new a b
  pub begin : LastFlat (take replaced.from old) p
  pub end : FirstFlat new (replaced.from + length replaced.middle) n
  pub old_end : e + length new ≡ n + length old
