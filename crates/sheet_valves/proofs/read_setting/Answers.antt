use mathlib.Core.Path.{sym, ◌∙◌}
use Rattle.sheet_valves.specs.Settings.{read_setting}
use Rattle.text_digits.proofs.Steps.{in_bound}
use borrow.Author.Rules.{rules}
use Rattle.sheet_valves.proofs.read_setting.Goals as goal

pub settle-requires : goal.settle-requires
settle-requires c = (in_bound _ (c.value_number.ensures.value) (c.in-Some.is), in_bound _ (c.value_number-in-Some.ensures.value) (c.in-Some-value_number.is))

pub returns-in-None : goal.returns-in-None
unfolding read_setting
returns-in-None c = rw (sym (c.value_number.ensures.value) ∙ c.in-None.is)

pub returns-in-None-value_number : goal.returns-in-None-value_number
unfolding read_setting
returns-in-None-value_number c = rw (sym (c.value_number.ensures.value) ∙ c.in-Some.is, sym (c.value_number-in-Some.ensures.value) ∙ c.in-None-value_number.is)

pub returns-in-Some-value_number : goal.returns-in-Some-value_number
unfolding read_setting
returns-in-Some-value_number c = rw (sym (c.value_number.ensures.value) ∙ c.in-Some.is, sym (c.value_number-in-Some.ensures.value) ∙ c.in-Some-value_number.is, ← c.wheel_of.ensures) (c.settle.ensures)
