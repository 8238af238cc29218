use mathlib.Core.Path.{◌∙◌}
use Rattle.run_scanners.proofs.Laws as laws
use Rattle.run_scanners.proofs.contains_close.Goals as goal

pub returns : goal.returns
returns c = c.contains.ensures.value ∙ laws.any_in _ _
