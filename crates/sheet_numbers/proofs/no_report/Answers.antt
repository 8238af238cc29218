use borrow.Author.Rules.{rules}
use Rattle.sheet_numbers.proofs.no_report.Goals as goal

pub returns : goal.returns
returns c = rw c.empty-totals.ensures
