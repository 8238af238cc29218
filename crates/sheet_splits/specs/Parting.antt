-- Where a sheet may be parted, so that its blocks are those of the one part and then those of the other: behind an LF, before a line that begins with neither
-- space nor tab. ("Each later line must be indented", so no block reaches over such a place.)
use Rattle.std.specs.Prelude.{ℕ, ◌+◌, ◌≡◌, Bool, true, false, List, [], ◌∷◌, eqb}
use Rattle.base_bytes.specs.Bytes.{lf}
use Rattle.block_trimmed_line.specs.Fronts.{begins_indented}
use Rattle.sheet_blocks.specs.Sheets.{Try}
use Rattle.sheet_records.specs.Records.{Record}

-- the text is empty or ends in an LF
unfoldable pub is_whole : List ℕ → Bool
is_whole [] = true
is_whole (b ∷ []) = eqb b lf
is_whole (b ∷ c ∷ s) = is_whole (c ∷ s)

-- a text may be parted between x and y
pub data MayPart (x y : List ℕ) : Type 0 where
  nothing-before : x ≡ [] → MayPart x y
  nothing-behind : y ≡ [] → MayPart x y
  at_line : is_whole x ≡ true → begins_indented y ≡ false → MayPart x y

-- ---- "its lines and places counted on": d lines and o bytes farther on

abbrev pub farther : ℕ → ℕ → Try → Try
farther d o x = record { line = d + x.line; at = o + x.at; found = x.found }

abbrev pub moved_on : ℕ → ℕ → Record → Record
moved_on d o r = record { line = d + r.line; count = r.count; offset = o + r.offset; id = r.id }
