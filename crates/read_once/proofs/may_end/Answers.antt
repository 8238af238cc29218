use borrow.Author.Tests.{eq-eqb, ne_eqb}
use Rattle.read_once.proofs.may_end.Reads as reads
use Rattle.read_once.proofs.may_end.Lts as lts
use Rattle.read_once.proofs.may_end.Goals as goal

-- src/lib.rt:322:9
pub returns-then-a-e : goal.returns-then-a-e
returns-then-a-e c = rw (eq-eqb c.args.a c.args.e c.if-a-e.true)

-- src/lib.rt:318:1
pub returns : goal.returns
returns c = rw (ne_eqb c.args.a c.args.e c.if-a-e.false)
