use Rattle.door_shared.proofs.Laws.{told_4}
use borrow.Author.Rules.{rules}
use Rattle.door_indexes.proofs.tell_row.Goals as goal

pub returns : goal.returns
returns c = told_4 _ _ _ _ _ (c.tell.ensures) (c.tell-2.ensures) (c.tell-3.ensures) (c.tell-4.ensures)
