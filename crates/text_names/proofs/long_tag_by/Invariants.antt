use Rattle.base_letters.specs.Classes.{is_of}
use Rattle.text_names.specs.Tested.{tested}
use Rattle.text_names.specs.Computed.{tag_from, tag_passes}
use Rattle.text_names.proofs.Tag as tag
use Rattle.text_names.proofs.long_tag_by.Given as goal

abbrev pub invariant-loop-i : goal.invariant-loop-i
invariant-loop-i l = tag.Reads (is_of l.table 3) l.s (tested (tag_from (is_of l.table 3) l.s 0) (tag_passes (is_of l.table 3) l.s 0)) l.i l.k
