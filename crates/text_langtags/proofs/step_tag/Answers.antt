use borrow.Author.Tests.{eq-eqb, ne_eqb}
use Rattle.text_langtags.specs.Inner.{stepped}
use borrow.Author.Rules.{rules}
use Rattle.text_langtags.proofs.step_tag.Goals as goal

pub returns-then-b-eq45 : goal.returns-then-b-eq45
unfolding stepped
returns-then-b-eq45 c = rw (c.empty.ensures, c.stage_behind.ensures, c.spell-word.ensures, eq-eqb c.args.b 45 c.if-b-eq45.true)

pub returns : goal.returns
unfolding stepped
returns c = rw (c.grow.ensures, c.spell-word.ensures, ne_eqb c.args.b 45 c.if-b-eq45.false)
