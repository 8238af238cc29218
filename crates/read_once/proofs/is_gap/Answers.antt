use mathlib.Core.Path.{◌∙◌}
use borrow.Author.Rules.{rules}
use borrow.Author.Tests.{eq-eqb, ne_eqb}
use Rattle.read_once.specs.Inner.{is_gap}
use Rattle.read_once.proofs.is_gap.Goals as goal

pub returns-then-b-eq10 : goal.returns-then-b-eq10
unfolding is_gap
returns-then-b-eq10 c = rw (eq-eqb _ 10 c.if-b-eq10.true)

pub returns : goal.returns
unfolding is_gap
returns c = c.is_blank.ensures ∙ (rw (ne_eqb _ 10 c.if-b-eq10.false))
