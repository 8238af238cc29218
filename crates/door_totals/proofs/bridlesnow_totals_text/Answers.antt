use Rattle.door_totals.proofs.Says as laws
use borrow.Author.Rules.{rules}
use Rattle.door_totals.proofs.bridlesnow_totals_text.Goals as goal

pub returns : goal.returns
returns c = laws.text-said _ c.report_in.ensures c.room_in.ensures _ _ c.write_text-wrote.ensures.value c.write_text-wrote.ensures.out_after c.wrote_len.ensures c.tell.ensures c.wrote_number.ensures
