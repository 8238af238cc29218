-- Of proofs alone: the walk beside the search for the close.
use Rattle.std.specs.Prelude.{Bool, true, false, Some}
use Rattle.block_grammar.specs.Close.{fresh}
use Rattle.block_grammar.specs.declared.Scan.{Scan}
use Rattle.block_places.specs.Computed.{Spot}

-- the search's state, by the spot
abbrev pub scan_of : Spot → Scan
scan_of (Spot.edge some) = fresh
scan_of (Spot.tag k ok) = fresh
scan_of Spot.sigil = fresh
scan_of Spot.name = fresh
scan_of (Spot.word ok) = fresh
scan_of Spot.due = fresh
scan_of Spot.plain = fresh
scan_of (Spot.quoted q e) = record { quote = Some q; escaped = e }
scan_of Spot.shut = fresh

abbrev pub is_out : Spot → Bool
is_out (Spot.edge some) = true
is_out (Spot.tag k ok) = true
is_out Spot.sigil = true
is_out Spot.name = true
is_out (Spot.word ok) = true
is_out Spot.due = true
is_out Spot.plain = true
is_out (Spot.quoted q e) = false
is_out Spot.shut = true
