use lib.ListN.{length}
use Rattle.text_names.proofs.+tag_by.Given as goal

abbrev pub decreases-tag_by : goal.decreases-tag_by
decreases-tag_by l = length l.s.now
