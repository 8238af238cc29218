-- "mend after lines a to b were replaced": which records stay, which move, and which are read again.
use Rattle.std.specs.Prelude.{ℕ, ◌+◌, ◌≡◌, List, ◌++◌, map, length, take, drop}
use Rattle.std.proofs.Math.Seq.{slice}
use Rattle.text_lines.specs.Lines.{lines}
use Rattle.sheet_records.specs.Listed.{records_of}
use Rattle.sheet_splits.specs.Parting.{moved_on}

-- The lines from p up to e of the old text are read again, which end at n of the new one: the records before them are those of the text before p, the same of both
-- texts; those behind them are those of the text behind e, the same too but for the lines and bytes that they stand farther on.
pub record Mends (old new : List ℕ) (p e n : ℕ) : Type 0 where
  pub old_records : records_of old ≡ records_of (take p old) ++ (map (moved_on (length (lines (take p old))) p) (records_of (slice p e old))
      ++ map (moved_on (length (lines (take p old)) + length (lines (slice p e old))) e) (records_of (drop e old)))
  pub new_records : records_of new ≡ records_of (take p old) ++ (map (moved_on (length (lines (take p old))) p) (records_of (slice p n new))
      ++ map (moved_on (length (lines (take p old)) + length (lines (slice p n new))) n) (records_of (drop e old)))
