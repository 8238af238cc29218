use mathlib.Core.Path.{sym, ◌∙◌}
use borrow.Author.Tests.{not-true, not-false}
use Rattle.set_values.specs.Values.{class_ok}
use borrow.Author.Rules.{rules}
use Rattle.set_values.proofs.class_ok.Goals as goal

pub returns-then-not-value_ok : goal.returns-then-not-value_ok
unfolding class_ok
returns-then-not-value_ok c = rw (sym c.value_ok.ensures ∙ c.if-not-value_ok.true)

pub returns : goal.returns
unfolding class_ok
returns c = rw (sym c.value_ok.ensures ∙ c.if-not-value_ok.false) c.class_value.ensures
