use Rattle.door_shared.proofs.Laws.{came, told_4}
use Rattle.door_merged.proofs.Said as laws
use borrow.Author.Rules.{rules}
use Rattle.door_merged.proofs.say_merged.Goals as goal

pub returns : goal.returns
returns c =
    laws.blocks_said _ _ c.args.common c.args.variant c.text_over-first.ensures c.text_over-second.ensures c.as_first-target.ensures c.as_second-incoming.ensures
    c.merge_attrs-merged.ensures.value c.first_of.ensures.value c.first_of-refused.ensures.value
    (came c.write_out-w.ensures c.wrote_len.ensures (told_4 _ _ _ _ _ c.tell.ensures c.tell-2.ensures c.tell-3.ensures c.tell-4.ensures) c.wrote_number.ensures)
    c.wrote_outcome.ensures.value c.step_of.ensures
