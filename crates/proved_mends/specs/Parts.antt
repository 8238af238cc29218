-- Where a sheet may be parted: behind an LF, before a line that begins with neither space nor tab.
use Rattle.std.specs.Prelude.{◌≡◌, true, false, List, ◌++◌, map, ℕ, ◌≤◌, length}
use Rattle.std.proofs.Math.Seq.{slice}
use Rattle.base_bytes.specs.declared.Mode.TheVariants.{Loose}
use Rattle.base_refusals.specs.Numbers.{max_text}
use Rattle.text_lines.specs.Lines.{lines}
use Rattle.block_trimmed_line.specs.Fronts.{begins_indented}
use Rattle.set_table.specs.Types.{one}
use Rattle.set_table.specs.Rows.{meaning_of}
use Rattle.set_fill.specs.Fill.{chain_at}
use Rattle.sheet_blocks.specs.Sheets.{tries_at, join_behind}
use Rattle.sheet_records.specs.Listed.{records_of}
use Rattle.sheet_splits.specs.Parting.{is_whole, MayPart, farther, moved_on}

-- the tries of the whole are those of the first part and then those of the second, its lines and places counted on; in a join buffer of any length
abbrev pub TriesPart : Type 0
TriesPart = (x y : List ℕ) (cap n : ℕ) → is_whole x ≡ true → begins_indented y ≡ false
    → tries_at (x ++ y) cap n 0 ≡ tries_at x cap n 0 ++ map (farther (length (lines x)) (length x)) (tries_at y cap n 0)

-- so it is with the records, and with what the tries leave in the join buffer
abbrev pub RecordsPart : Type 0
RecordsPart = (x y : List ℕ) → MayPart x y → length (x ++ y) ≤ max_text → records_of (x ++ y) ≡ records_of x ++ map (moved_on (length (lines x)) (length x)) (records_of y)

abbrev pub JoinsPart : Type 0
JoinsPart = (x y : List ℕ) → MayPart x y → (buf : List ℕ) → join_behind buf (tries_at (x ++ y) max_text 1 0) ≡ join_behind (join_behind buf (tries_at x max_text 1 0)) (tries_at y max_text 1 0)

-- what a line of blocks is refused for and what it means don't depend on where it stands: they are those of its own bytes
pub record Alone (t : List ℕ) (from to : ℕ) : Type 0 where
  pub outcome : (chain_at Loose t from to).outcome ≡ (chain_at Loose (slice from to t) 0 (length (slice from to t))).outcome
  pub meaning : meaning_of (one t) (chain_at Loose t from to).set ≡ meaning_of (one (slice from to t)) (chain_at Loose (slice from to t) 0 (length (slice from to t))).set

abbrev pub PlaceFree : Type 0
PlaceFree = (t : List ℕ) (from to : ℕ) → length t ≤ max_text → Alone t from to
