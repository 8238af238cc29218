use borrow.Author.Rules.{rules}
use Rattle.read_once.proofs.tag_passes.Reads as reads
use Rattle.read_once.proofs.tag_passes.Lts as lts
use Rattle.read_once.proofs.is_allowed.Reads as is-allowed-reads
use Rattle.read_once.proofs.tag_passes.Goals as goal

-- src/lib.rt:577:1
pub returns-in-WellFormed : goal.returns-in-WellFormed
returns-in-WellFormed c = rw (c.in-WellFormed.is) (c.is_allowed.ensures)
