use Rattle.door_shared.proofs.Laws.{came, told_1}
use Rattle.door_sets.proofs.Said as laws
use borrow.Author.Rules.{rules}
use Rattle.door_sets.proofs.bridlesnow_parse_standalone_attrs.Goals as goal

pub returns : goal.returns
returns c =
    laws.line_said_lem _ _ _ _ c.parse_standalone_attrs-filled.ensures.value
    (came c.write_out-w.ensures c.wrote_len.ensures (told_1 _ _ c.tell.ensures) c.wrote_number.ensures)
