use mathlib.Core.Path.{sym, ◌∙◌}
use Rattle.sheet_valves.specs.Settings.{wheel_of}
use borrow.Author.Rules.{rules}
use Rattle.sheet_valves.proofs.wheel_of.Goals as goal

pub returns-then-value_is : goal.returns-then-value_is
unfolding wheel_of
returns-then-value_is c = rw (sym (c.value_is.ensures) ∙ c.if-value_is.true)

pub returns-then-value_is-2 : goal.returns-then-value_is-2
unfolding wheel_of
returns-then-value_is-2 c = rw (sym (c.value_is.ensures) ∙ c.if-value_is.false, sym (c.value_is-2.ensures) ∙ c.if-value_is-2.true)

pub returns-then-value_is-3 : goal.returns-then-value_is-3
unfolding wheel_of
returns-then-value_is-3 c = rw (sym (c.value_is.ensures) ∙ c.if-value_is.false, sym (c.value_is-2.ensures) ∙ c.if-value_is-2.false, sym (c.value_is-3.ensures) ∙ c.if-value_is-3.true)

pub returns-then-value_is-4 : goal.returns-then-value_is-4
unfolding wheel_of
returns-then-value_is-4 c = rw (sym (c.value_is.ensures) ∙ c.if-value_is.false, sym (c.value_is-2.ensures) ∙ c.if-value_is-2.false, sym (c.value_is-3.ensures) ∙ c.if-value_is-3.false, sym (c.value_is-4.ensures) ∙ c.if-value_is-4.true)

pub returns : goal.returns
unfolding wheel_of
returns c = rw (sym (c.value_is.ensures) ∙ c.if-value_is.false, sym (c.value_is-2.ensures) ∙ c.if-value_is-2.false, sym (c.value_is-3.ensures) ∙ c.if-value_is-3.false, sym (c.value_is-4.ensures) ∙ c.if-value_is-4.false)
