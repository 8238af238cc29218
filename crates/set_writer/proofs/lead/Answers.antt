use borrow.Author.Tests.{eq-eqb, ne_eqb}
use Rattle.set_writer.specs.Inner.{lead_byte}
use Rattle.set_writer.proofs.lead.Goals as goal

pub returns-then-at-eq0 : goal.returns-then-at-eq0
unfolding lead_byte
returns-then-at-eq0 c = rw (eq-eqb _ 0 (c.if-at-eq0.true))

pub returns : goal.returns
unfolding lead_byte
returns c = rw (ne_eqb _ 0 (c.if-at-eq0.false))
