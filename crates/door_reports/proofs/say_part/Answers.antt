use Rattle.door_shared.proofs.Laws.{told_3}
use borrow.Author.Rules.{rules}
use Rattle.door_reports.proofs.say_part.Goals as goal

pub returns : goal.returns
returns c = record { value = c.told_number.ensures; told_after = told_3 _ _ _ _ c.tell.ensures c.tell-2.ensures c.tell-3.ensures }
