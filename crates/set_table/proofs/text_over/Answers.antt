use borrow.Author.Tests.{eq-eqb, ne_eqb}
use Rattle.set_table.specs.Types.{text_over}
use borrow.Author.Rules.{rules}
use Rattle.set_table.proofs.text_over.Goals as goal

pub returns-then-joined-eq0 : goal.returns-then-joined-eq0
unfolding text_over
returns-then-joined-eq0 c = rw (eq-eqb _ 0 c.if-joined-eq0.true)

pub returns : goal.returns
unfolding text_over
returns c = rw (ne_eqb _ 0 c.if-joined-eq0.false) c.bytes_of.ensures
