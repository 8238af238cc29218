-- The walk in a line, byte by byte, and what a line opens with and closes.
use Rattle.std.specs.Prelude.{ℕ, Bool, false, cond, ◌&&◌, ◌||◌, not, List, [], ◌∷◌, leb}
use Rattle.text_lines.specs.Trim.{trim_start}
use Rattle.run_scanners.specs.Scanners.{passed, ignored, is_bare, column_behind}
use Rattle.run_spots.specs.declared.Spot.{Spot}
use Rattle.base_lists.specs.Lists.{begins_pair}
use Rattle.base_bytes.specs.Bytes.{close_brace, open_brace, percent}

-- ---- the walk in a line, from its first byte that is no whitespace on

-- "a stray `}`": outside quotes, where no block is open
abbrev pub is_stray : Spot → ℕ → Bool
is_stray p b = not p.inside && is_bare p.scan b close_brace

-- a `{` opens a block where none is open
abbrev pub opens_by : Spot → ℕ → Bool
opens_by p b = not p.inside && is_bare p.scan b open_brace

abbrev pub inside_after : Spot → ℕ → Bool
inside_after p b = cond p.inside (not (is_bare p.scan b close_brace)) (is_bare p.scan b open_brace)

unfoldable pub spot_after : Spot → ℕ → Spot
spot_after p b =
    record {
      scan = passed ignored p.scan b;
      column = column_behind p.scan.escaped p.column b;
      inside = inside_after p b;
      brace = cond (opens_by p b) p.column p.brace;
    }

-- ---- a line

-- "a continuation at or below its `{` column" (000)
abbrev pub shallow_or : Bool → Bool → ℕ → ℕ → Bool
shallow_or shallow first column brace = shallow || (not first && leb column brace)

-- 000: it opens with `{%`
abbrev pub opens_comment : List ℕ → Bool
opens_comment l = begins_pair open_brace percent (trim_start l)

-- `%}` stands in it
unfoldable pub closes_comment : List ℕ → Bool
closes_comment [] = false
closes_comment (b ∷ s) = begins_pair percent close_brace (b ∷ s) || closes_comment s
