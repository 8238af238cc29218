use Rattle.set_columns.proofs.Tables as laws
use borrow.Author.Rules.{rules}
use Rattle.set_columns.proofs.refuse.Goals as goal

pub returns : goal.returns
returns c = rw c.empty-table.ensures
