use Rattle.door_shared.proofs.Laws.{came, told_3}
use Rattle.door_sets.proofs.Said as laws
use borrow.Author.Rules.{rules}
use Rattle.door_sets.proofs.hand_read.Goals as goal

pub returns : goal.returns
returns c =
    laws.read_said _ _ _ c.args.read c.check_by.ensures c.or_text-c.ensures c.next_of.ensures c.place_of.ensures
    (came c.write_out-w.ensures c.wrote_len.ensures (told_3 _ _ _ _ c.tell.ensures c.tell-2.ensures c.tell-3.ensures) c.wrote_number.ensures)
