use mathlib.Core.Path.{sym, ◌∙◌}
use Rattle.set_canon.specs.Canon.{is_class_value}
use borrow.Author.Rules.{rules}
use Rattle.set_values.proofs.class_bytes.Goals as goal

pub returns-then-no_space : goal.returns-then-no_space
unfolding is_class_value
returns-then-no_space c = rw (sym c.no_space.ensures ∙ c.if-no_space.true)

pub returns : goal.returns
unfolding is_class_value
returns c = rw (sym c.no_space.ensures ∙ c.if-no_space.false) c.only_space.ensures
