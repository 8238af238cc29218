use mathlib.Core.Path.{◌∙◌}
use borrow.Author.Rules.{rules}
use Rattle.text_langtags.proofs.stage_behind.Goals as goal

pub returns : goal.returns
returns c = c.next_stage.ensures ∙ rw c.kind_of.ensures
