use Rattle.set_loose.proofs.Whole as laws
use borrow.Author.Rules.{rules}
use Rattle.set_loose.proofs.without_row.Goals as goal

pub returns : goal.returns
returns c = laws.row_out _ _ c.requires c.rows_without-keys.ensures c.slots_without-order.ensures
