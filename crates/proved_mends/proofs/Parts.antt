-- A sheet that is parted.
-- Assumes nothing.
use Rattle.sheet_splits.proofs.Split.{split}
use Rattle.sheet_splits.proofs.Parted.{flat_lines, records_parted, join_parted}
use Rattle.sheet_splits.proofs.Alike.{line_alike}
use Rattle.proved_mends.specs.Parts.{TriesPart, RecordsPart, JoinsPart, PlaceFree}

pub tries-part : TriesPart
tries-part x y cap n w f = split x y w (flat_lines y f) cap n

pub records_part : RecordsPart
records_part = records_parted

pub joins_part : JoinsPart
joins_part = join_parted

pub place_free : PlaceFree
place_free t from to k = let a = line_alike t from to k in record { outcome = a.outcome; meaning = a.meaning }
