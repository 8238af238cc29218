-- "Lines end at LF; a CR just before that LF is dropped. Text after the last LF is a line if it isn't empty. A line number counts from 1."
-- That is `lines` (text_lines/specs/Lines); here the same by places and by number.
use Rattle.std.specs.Prelude.{◌≡◌, true, not, List, [], map, ◌⊎◌, ℕ, ◌-◌, ◌<◌, ◌≤◌, eqb, length, get_or, Some}
use Rattle.base_lists.specs.Lists.{all}
use Rattle.base_bytes.specs.Bytes.{lf}
use Rattle.text_lines.specs.declared.Range.{Range}
use Rattle.text_lines.specs.Lines.{lines, ranges, bytes_of, line_of, line_paper}
use Rattle.text_checks.specs.Check.{is_text}
use Rattle.text_line_start.specs.Starts.{start_at, start_paper}

-- the places where lines lie have the lines' bytes, in order
abbrev pub LinesByPlaces : Type 0
LinesByPlaces = (t : List ℕ) → map (bytes_of t) (ranges t) ≡ lines t

-- "Lines end at LF": so no line holds one
abbrev pub LineHoldsNoLf : Type 0
LineHoldsNoLf = (t : List ℕ) (n : ℕ) → all (λ b. not (eqb b lf)) (get_or (lines t) n []) ≡ true

-- "A line number counts from 1.": r is where line n lies
pub record NthLine (n : ℕ) (t : List ℕ) (r : Range) : Type 0 where
  pub counted : 0 < n
  pub there : n ≤ length (lines t)
  pub bytes : bytes_of t r ≡ get_or (lines t) (n - 1) []

-- the line of a number is found there
abbrev pub LineOfNumber : Type 0
LineOfNumber = (n : ℕ) (t : List ℕ) (r : Range) → line_of n t ≡ Some r → NthLine n t r

-- "no such line": number 0, or one past the last
abbrev pub NoSuchLine : ℕ → List ℕ → Type 0
NoSuchLine n t = (n ≡ 0) ⊎ (length (lines t) < n)

-- "Given exactly when": either follows from the other
abbrev pub BothWays : Type 0 → Type 0 → Type 0
BothWays P Q = (P → Q) × (Q → P)

-- `line_of` gives 3 exactly where there is no such line, ..
abbrev pub LineThree : Type 0
LineThree = (n : ℕ) (t : List ℕ) → BothWays ((line_paper (line_of n t)).number ≡ 3) (NoSuchLine n t)

-- .. and `line_start` exactly where the text gives neither 1 nor 2 besides
abbrev pub StartThree : Type 0
StartThree = (n : ℕ) (t : List ℕ) → BothWays ((start_paper (start_at t n)).number ≡ 3) ((is_text t ≡ true) × NoSuchLine n t)
