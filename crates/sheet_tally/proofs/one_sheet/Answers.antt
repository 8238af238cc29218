use borrow.Author.Rules.{rules}
use Rattle.sheet_tally.proofs.one_sheet.Goals as goal

pub returns : goal.returns
returns c = rw c.empty-t.ensures
