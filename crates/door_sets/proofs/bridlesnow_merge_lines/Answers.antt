use Rattle.door_shared.proofs.Laws.{came, told_2}
use Rattle.door_sets.proofs.Said as laws
use borrow.Author.Rules.{rules}
use Rattle.door_sets.proofs.bridlesnow_merge_lines.Goals as goal

pub returns : goal.returns
returns c =
    laws.merge_said_lem _ _ _ _ _ c.parse_standalone_attrs-first.ensures.value c.parse_standalone_attrs-second.ensures.value c.merge_attrs-merged.ensures.value c.first_of.ensures.value
    c.first_of-2.ensures.value c.step_of.ensures
    (came c.write_out-w.ensures c.wrote_len.ensures (told_2 _ _ _ c.tell.ensures c.tell-2.ensures) c.wrote_number.ensures)
