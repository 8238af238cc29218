use Rattle.door_totals.proofs.Says as laws
use borrow.Author.Rules.{rules}
use Rattle.door_totals.proofs.bridlesnow_totals_add.Goals as goal

pub returns : goal.returns
returns c = laws.add_said _ c.report_in.ensures c.room_in.ensures _ c.report_in-2.ensures c.add_totals-sum.ensures.value c.room_in-2.ensures c.first_of-room.ensures.value c.first_of-outcome.ensures.value c.keep.ensures.value c.keep.ensures.totals_after
