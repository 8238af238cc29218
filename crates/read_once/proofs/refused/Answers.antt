use borrow.Author.Rules.{rules}
use Rattle.read_once.proofs.refused.Reads as reads
use Rattle.read_once.proofs.refused.Lts as lts
use Rattle.set_table.proofs.Attrs.empty.Reads as empty-reads
use Rattle.read_once.proofs.refused.Goals as goal

-- src/lib.rt:644:1
pub returns : goal.returns
returns c = rw (c.empty-set.ensures)
