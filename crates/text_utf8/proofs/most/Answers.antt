use borrow.Author.Tests.{le-leb, lt-leb}
use Rattle.text_utf8.proofs.Pieces as laws
use Rattle.text_utf8.proofs.most.Goals as goal

pub returns-then-b-m : goal.returns-then-b-m
returns-then-b-m c = laws.yes (le-leb _ _ c.if-b-m.true)

pub returns-else-b-m : goal.returns-else-b-m
returns-else-b-m c = laws.no_test (lt-leb _ _ c.if-b-m.false)
