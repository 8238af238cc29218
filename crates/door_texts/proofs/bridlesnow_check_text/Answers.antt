use mathlib.Core.Path.{ap, ◌∙◌}
use borrow.Author.Rules.{rules}
use Rattle.base_refusals.specs.Numbers.{outcome_no}
use Rattle.door_texts.proofs.bridlesnow_check_text.Goals as goal

pub returns : goal.returns
returns c = c.outcome_number.ensures ∙ ap outcome_no (c.check_text.ensures.value)
