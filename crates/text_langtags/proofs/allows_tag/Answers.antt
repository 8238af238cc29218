use borrow.Author.Rules.{rules}
use borrow.Author.Tests.{eq-eqb, ne_eqb}
use Rattle.text_langtags.specs.Inner.{allowed_so_far}
use Rattle.text_langtags.proofs.allows_tag.Goals as goal

pub returns-then-w-eq0 : goal.returns-then-w-eq0
unfolding allowed_so_far
returns-then-w-eq0 c = rw (eq-eqb _ 0 c.if-w-eq0.true)

pub returns : goal.returns
unfolding allowed_so_far
returns c = rw (ne_eqb _ 0 c.if-w-eq0.false) c.accepts_tag.ensures
