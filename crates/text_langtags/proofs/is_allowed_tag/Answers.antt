use mathlib.Core.Path.{◌∙◌}
use borrow.Author.Rules.{rules}
use Rattle.text_langtags.proofs.Steps as steps
use Rattle.text_langtags.proofs.is_allowed_tag.Goals as goal

pub returns-then-s-eq0 : goal.returns-then-s-eq0
returns-then-s-eq0 c = steps.allowed_none _ c.if-s-eq0.true

pub returns : goal.returns
returns c = c.is_well_formed_tag.ensures ∙ steps.allowed_some _ c.if-s-eq0.false
