use borrow.Author.Tests.{eq-eqb, ne_eqb}
use Rattle.text_utf8.proofs.Pieces as laws
use Rattle.text_utf8.proofs.same.Goals as goal

pub returns-then-m-b : goal.returns-then-m-b
returns-then-m-b c = laws.yes (eq-eqb _ _ c.if-m-b.true)

pub returns-else-m-b : goal.returns-else-m-b
returns-else-m-b c = laws.no_test (ne_eqb _ _ c.if-m-b.false)
