use Rattle.door_shared.proofs.Laws.{told_3}
use borrow.Author.Rules.{rules}
use Rattle.door_valves.proofs.say_variants.Goals as goal

pub returns : goal.returns
returns c = record { value = c.hand_table.ensures.value; cells_after = c.hand_table.ensures.cells_after; told_after = told_3 _ _ _ _ c.tell.ensures c.tell-2.ensures c.tell-3.ensures }
