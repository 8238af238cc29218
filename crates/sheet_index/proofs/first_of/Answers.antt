use Rattle.sheet_index.proofs.Rows as laws
use borrow.Author.Rules.{rules}
use Rattle.sheet_index.proofs.first_of.Goals as goal

pub returns-then-has_id : goal.returns-then-has_id
returns-then-has_id c = laws.or_on _ _ _ (rw c.in-None.is at c.in_ok-line.was) (laws.first_yes _ _ c.args.row c.has_id.ensures c.if-has_id.true)

pub returns-else-has_id : goal.returns-else-has_id
returns-else-has_id c = laws.or_on _ _ _ (rw c.in-None.is at c.in_ok-line.was) (laws.first_no _ _ c.args.row c.has_id.ensures c.if-has_id.false)
