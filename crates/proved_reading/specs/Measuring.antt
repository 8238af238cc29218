-- Measuring, and reading beside it: which numbers come, how far is looked ahead, and that both agree.
use Rattle.std.specs.Prelude.{ℕ, ◌<◌, ◌≤◌, ◌≡◌, Bool, true, false, not, ◌&&◌, List, [], ◌∷◌, eqb, length, drop, Err}
use Rattle.base_lists.specs.Lists.{is_in}
use Rattle.base_refusals.specs.Numbers.{max_text}
use Rattle.base_refusals.specs.declared.Refusal.{Refusal}
use Rattle.text_lines.specs.Lines.{lines}
use Rattle.block_chain.specs.Chain.{good_line}
use Rattle.block_trimmed_line.specs.Fronts.{front_of, opens_at}
use Rattle.run_lines.specs.Runs.{past_lines}
use Rattle.read_blocks.specs.Blocks.{Found, found, joined_in, lookahead_of, lines_of, block_of}
use Rattle.read_blocks.specs.Inner.{is_unread}
use Rattle.read_blocks.specs.ByLine.{block_found, wrapped_found}
use Rattle.read_lengths.specs.Lengths.{length_of, length_no, lines_in, measured, standalone_found, indented_found}

-- ---- "Measuring never gives 6 or 7"

-- "elsewhere 1, 2, 3, 9 or 5 as the run meets them"; 0 where a block is there
abbrev pub measured_numbers : List ℕ
measured_numbers = 0 ∷ 1 ∷ 2 ∷ 3 ∷ 5 ∷ 9 ∷ []

-- what holds of every answer over the text t with a join buffer of cap bytes
pub record Fair (t : List ℕ) (cap : ℕ) (f : Found) : Type 0 where
  pub number : is_in measured_numbers (length_no (length_of f)) ≡ true
  -- "at most the text's length"
  pub lookahead : lookahead_of f ≤ length t
  pub joined : length (joined_in f) ≤ length t
  -- "so 9 can't arise": with a join buffer of the text's length
  pub room : length t ≤ cap → eqb (length_no (length_of f)) 9 ≡ false

-- of a block at a place, by line number, and of the two entries that ask more of it
abbrev pub FairFound : List ℕ → ℕ → Type 0
FairFound t cap = (at base : ℕ) → Fair t cap (found t at base cap)

abbrev pub FairBlock : List ℕ → ℕ → Type 0
FairBlock t cap = (n base : ℕ) → Fair t cap (block_found t n base cap)

abbrev pub FairWraps : List ℕ → ℕ → Type 0
FairWraps t cap = (n base : ℕ) → Fair t cap (wrapped_found t n base cap)

abbrev pub FairStandalone : List ℕ → ℕ → Type 0
FairStandalone t cap = (n : ℕ) → Fair t cap (standalone_found t n cap)

abbrev pub FairIndented : List ℕ → ℕ → Type 0
FairIndented t cap = (n : ℕ) → Fair t cap (indented_found t n cap)

-- ---- "reading, line counts and merging" (demand 2): reading and measuring agree

-- on the count of lines, the lookahead, what is joined and the place behind the block
abbrev pub MeasuresWhatIsRead : List ℕ → ℕ → Found → Type 0
MeasuresWhatIsRead t at f =
    ((block_of t at f).lines ≡ lines_in (measured t at f).length)
    × (((block_of t at f).lookahead ≡ (measured t at f).lookahead) × (((block_of t at f).joined ≡ (measured t at f).joined) × ((block_of t at f).next ≡ (measured t at f).next)))

-- and what measuring refuses, reading refuses with the same number
abbrev pub RefusedAlike : List ℕ → ℕ → Found → Refusal → Type 0
RefusedAlike t at f q = (measured t at f).length ≡ Err q → (block_of t at f).outcome ≡ Err q

-- a block that is measured is read, or refused for a limit: never 5
abbrev pub MeasuredIsRead : (t : List ℕ) (at base cap : ℕ) → Type 0
MeasuredIsRead t at base cap = length t ≤ max_text → 0 < lines_of (found t at base cap) → is_unread (block_of t at (found t at base cap)).outcome ≡ false

-- the place behind a block of n lines: from there on the lines behind the block stand
abbrev pub PlaceBehind : Type 0
PlaceBehind = (n : ℕ) (t : List ℕ) (at : ℕ) → lines (drop (past_lines n t at) t) ≡ drop n (lines (drop at t))

-- ---- "A block is one good line, else, if the first line's trimmed end isn't `}`, a wrapped run"

-- "answers 5 for a block of one line": such a block is a good line, and no run
abbrev pub OneLine : (t : List ℕ) (at base cap : ℕ) → Type 0
OneLine t at base cap = eqb (lines_of (found t at base cap)) 1 ≡ true → found t at base cap ≡ Found.line

-- a run is made for the block at the place
abbrev pub makes_run : List ℕ → ℕ → Bool
makes_run t at = opens_at t at && (not (good_line t (front_of t at).from (front_of t at).to) && not (front_of t at).closes)

-- where none is made nothing is joined, and the lookahead is 0
abbrev pub NoRun : Type 0
NoRun = (t : List ℕ) (at base cap : ℕ) → makes_run t at ≡ false → (lookahead_of (found t at base cap) ≡ 0) × (joined_in (found t at base cap) ≡ [])
