use borrow.Author.Rules.{rules}
use Rattle.sheet_variants.proofs.no_table.Goals as goal

pub returns : goal.returns
returns c = rw (c.empty-table.ensures)
