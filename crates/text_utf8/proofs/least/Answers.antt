use borrow.Author.Tests.{le-leb, lt-leb}
use Rattle.text_utf8.proofs.Pieces as laws
use Rattle.text_utf8.proofs.least.Goals as goal

pub returns-then-m-b : goal.returns-then-m-b
returns-then-m-b c = laws.yes (le-leb _ _ c.if-m-b.true)

pub returns-else-m-b : goal.returns-else-m-b
returns-else-m-b c = laws.no_test (lt-leb _ _ c.if-m-b.false)
