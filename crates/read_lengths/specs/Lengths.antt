-- How many lines a block has: what measuring answers, and which block each entry measures.
use Rattle.std.specs.Prelude.{ℕ, cond, List, [], ◌∷◌, eqb, length, Err, Ok, Result}
use Rattle.text_lines.specs.Lines.{line_at}
use Rattle.base_refusals.specs.Numbers.{Paper, refused_paper, passed_paper}
use Rattle.base_refusals.specs.Orders.{Ground}
use Rattle.base_refusals.specs.declared.Refusal.TheVariants.{NothingThere, NoReading}
use Rattle.run_lines.specs.Runs.{past_lines}
use Rattle.block_trimmed_line.specs.Fronts.{begins_indented}
use Rattle.text_line_start.specs.Starts.{start_at, on_start, line_order}
use Rattle.read_blocks.specs.Blocks.{Found, nothing, found, joined_in, lookahead_of, lines_of, found_order}
use Rattle.read_blocks.specs.ByLine.{block_found}
use Rattle.read_lengths.specs.declared.Measure.{Measure}
use Rattle.base_refusals.specs.declared.Refusal.{Refusal}

-- ---- measuring: "Measuring never gives 6 or 7"

abbrev pub length_of : Found → Result ℕ Refusal
length_of Found.line = Ok 1
length_of (Found.run r) = Ok r.lines
length_of (Found.none q x n) = Err q

-- the number of an answer, 0 where a block is there, and its lines
abbrev pub length_paper : Result ℕ Refusal → Paper
length_paper (Err r) = refused_paper r
length_paper (Ok n) = passed_paper (n ∷ [])

abbrev pub length_no : Result ℕ Refusal → ℕ
length_no l = (length_paper l).number

abbrev pub lines_in : Result ℕ Refusal → ℕ
lines_in (Err r) = 0
lines_in (Ok n) = n

-- with the place behind the block
unfoldable pub measured : List ℕ → ℕ → Found → Measure
measured t at f = record { length = length_of f; lookahead = lookahead_of f; joined = length (joined_in f); next = past_lines (lines_of f) t at }

-- ---- by line number

-- "for `standalone_attrs_block_len`, first line starts with space or tab"
unfoldable pub flush_left : List ℕ → ℕ → ℕ → Found
flush_left t cap at = cond (begins_indented (line_at t at)) (nothing NothingThere) (found t at 0 cap)

unfoldable pub standalone_found : List ℕ → ℕ → ℕ → Found
standalone_found t n cap = on_start nothing (flush_left t cap) (start_at t n)

-- "`indented_wrapped_attrs_block_len` answers 5 for a block of one line."
abbrev pub unless_line : Found → Found
unless_line f = cond (eqb (lines_of f) 1) (nothing NoReading) f

unfoldable pub indented_found : List ℕ → ℕ → ℕ → Found
indented_found t n cap = unless_line (block_found t n 0 cap)

-- ---- "elsewhere 1, 2, 3, 9 or 5 as the run meets them"; "Measuring never gives 6 or 7": of a good line nothing more is asked

abbrev pub measure_order : List ℕ → ℕ → ℕ → ℕ → List Ground
measure_order t at base cap = found_order (λ s from to. []) t at base cap

-- a block of one line is 5; such a block opens, so 3 isn't lost behind it
abbrev pub more_order : List ℕ → ℕ → ℕ → ℕ → List Ground
more_order t at base cap = Ground.given NoReading (eqb (lines_of (found t at base cap)) 1) ∷ measure_order t at base cap

-- `attrs_block_len_at`
abbrev pub length_order : List ℕ → ℕ → ℕ → ℕ → List Ground
length_order t n column cap = line_order t n (λ at. measure_order t at column cap)

-- `standalone_attrs_block_len`: an indented first line is 3
abbrev pub flush_order : List ℕ → ℕ → ℕ → List Ground
flush_order t n cap = line_order t n (λ at. Ground.given NothingThere (begins_indented (line_at t at)) ∷ measure_order t at 0 cap)

-- `indented_wrapped_attrs_block_len`
abbrev pub indented_order : List ℕ → ℕ → ℕ → List Ground
indented_order t n cap = line_order t n (λ at. more_order t at 0 cap)
