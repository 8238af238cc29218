-- "lines `joined` and total `lookahead` over its measuring runs": each line of a sheet is joined in one run at most, since the later lines of a run are indented
-- and a block's first line isn't.
use Rattle.std.specs.Prelude.{List, ℕ, ◌≤◌, length}
use Rattle.text_lines.specs.Lines.{lines}
use Rattle.read_blocks.specs.Blocks.{lookahead_of}
use Rattle.sheet_tally.specs.Lists.{total}
use Rattle.sheet_tally.specs.Counts.{tries_in, joined_at}

-- the lookahead of a sheet is no more than its bytes
abbrev pub LookaheadLe : Type 0
LookaheadLe = (t : List ℕ) → total (λ x. lookahead_of x.found) (tries_in t) ≤ length t

-- and no more lines are joined than it has
abbrev pub JoinedLe : Type 0
JoinedLe = (t : List ℕ) → total (joined_at t) (tries_in t) ≤ length (lines t)
