-- "from line 1, it tries `standalone_attrs_block_len` at each line .. then it goes past the block, or with none on one line": where a sheet is tried, and how its
-- blocks stand.
use Rattle.std.specs.Prelude.{◌≡◌, true, false, List, [], ◌∷◌, ℕ, ◌+◌, ◌-◌, ◌<◌, ◌≤◌, eqb, length, Ok}
use Rattle.base_refusals.specs.Numbers.{max_text}
use Rattle.text_checks.specs.Check.{check_of}
use Rattle.text_lines.specs.Lines.{ranges}
use Rattle.text_line_start.specs.Starts.{place_of}
use Rattle.run_lines.specs.Runs.{past_lines}
use Rattle.read_blocks.specs.Blocks.{lines_of}
use Rattle.read_lengths.specs.Lengths.{length_of, length_no, flush_left, standalone_found}
use Rattle.sheet_blocks.specs.Sheets.{Try, tries_from, tries_at, is_block, only_blocks, blocks_of}

-- P holds of each
unfoldable pub Each : (Try → Type 0) → List Try → Type 0
Each P [] = ◌≡◌ {A = ℕ} 0 0
Each P (x ∷ xs) = P x × Each P xs

-- ---- "it tries `standalone_attrs_block_len` at each line"

-- what was found is what that entry finds at the line of that number, which begins at that place
abbrev pub ByEntry : List ℕ → ℕ → Try → Type 0
ByEntry t cap x = (x.at ≡ place_of t x.line) × (x.found ≡ standalone_found t x.line cap)

-- so it is of each try of a sheet, with a join buffer of any length
abbrev pub TriedByEntry : Type 0
TriedByEntry = (t : List ℕ) (cap : ℕ) → check_of t ≡ Ok tt → Each (ByEntry t cap) (tries_from t cap 1 0 (ranges t))

-- ---- "Its buffers for joining and canonical text hold 65,535 bytes each, so 9 can't arise"

-- no try of a text that fits its join buffer is refused for 9
abbrev pub NineNever : Type 0
NineNever = (t : List ℕ) (cap : ℕ) → check_of t ≡ Ok tt → length t ≤ cap → Each (λ x. eqb (length_no (length_of x.found)) 9 ≡ false) (tries_from t cap 1 0 (ranges t))

-- nor does the buffer's length count otherwise: the blocks of a sheet are those found from its first byte on in any buffer as long as the text
abbrev pub RoomEnough : Type 0
RoomEnough = (t : List ℕ) (cap : ℕ) → length t ≤ max_text → length t ≤ cap → blocks_of t ≡ only_blocks (tries_at t cap 1 0)

-- ---- "then it goes past the block"

-- x is a block, looked for from line n on, which begins at the place `at`
pub record Stands (t : List ℕ) (cap n at : ℕ) (x : Try) : Type 0 where
  -- it stands at that line or behind it, where the line of its number begins
  pub number : n ≤ x.line
  pub place : x.at ≡ past_lines (x.line - n) t at
  -- each line gone past has a byte
  pub order : at + (x.line - n) ≤ x.at
  -- it is what `standalone_attrs_block_len` finds there, and is a block of one or more lines
  pub found : x.found ≡ flush_left t cap x.at
  pub is : is_block x.found ≡ true
  pub some : 0 < lines_of x.found
  -- each of its own lines has a byte, and they are the text's
  pub bytes : x.at + lines_of x.found ≤ past_lines (lines_of x.found) t x.at
  pub inside : past_lines (lines_of x.found) t x.at ≤ length t

-- each block stands behind the lines of the one before, so none lies over another
unfoldable pub InOrder : List ℕ → ℕ → ℕ → ℕ → List Try → Type 0
InOrder t cap n at [] = ◌≡◌ {A = ℕ} 0 0
InOrder t cap n at (x ∷ xs) = Stands t cap n at x × InOrder t cap (x.line + lines_of x.found) (past_lines (lines_of x.found) t x.at) xs

-- so stand the blocks that are found from a line on
abbrev pub BlocksInOrder : Type 0
BlocksInOrder = (t : List ℕ) (cap n at : ℕ) → InOrder t cap n at (only_blocks (tries_at t cap n at))

-- and those of a sheet, "from line 1"
abbrev pub SheetInOrder : Type 0
SheetInOrder = (t : List ℕ) → length t ≤ max_text → InOrder t max_text 1 0 (blocks_of t)
