use mathlib.Core.Path.{◌∙◌}
use Rattle.base_lists.proofs.Same.{same_pointwise}
use Rattle.base_lists.proofs.same_bytes.Goals as goal

pub returns : goal.returns
returns c = c.eq.ensures ∙ same_pointwise _ _
