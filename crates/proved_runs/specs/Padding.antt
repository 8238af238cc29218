-- "Padded `repaired` copies: pads as numbers; brace columns still count from the pad."
use Rattle.std.specs.Prelude.{ℕ, ◌≡◌, Bool, List, ◌++◌, map, replicate}
use Rattle.base_bytes.specs.Bytes.{space}
use Rattle.run_joins.specs.Joins.{Lined, So}
use Rattle.run_lines.specs.Runs.{run_from}
use Rattle.run_refused.specs.Refused.{Stretch, found_in}

-- n spaces before a line's bytes
abbrev pub spaces : ℕ → List ℕ → List ℕ
spaces n l = replicate n space ++ l

-- the padded copy of a line: its pad is written out, and what it counts stays
abbrev pub copied : Lined → Lined
copied l = record { pad = 0; line = spaces l.pad l.line; size = l.size }

-- a run over padded copies is the run over the lines with their pads as numbers
abbrev pub PadsAsNumbers : Type 0
PadsAsNumbers = (cap : ℕ) (so : So) (ls : List Lined) → run_from cap so (map copied ls) ≡ run_from cap so ls

-- and `refused_brace_run` answers the same of both
abbrev pub CopiesAnswered : Type 0
CopiesAnswered = (cap : ℕ) (shallow : Bool) (ls : List Lined) → found_in cap (Stretch.block shallow (map copied ls)) ≡ found_in cap (Stretch.block shallow ls)
