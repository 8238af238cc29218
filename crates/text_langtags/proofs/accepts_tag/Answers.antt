use mathlib.Core.Path.{sym, ◌∙◌}
use Rattle.text_langtags.specs.Inner.{well_formed_so_far}
use borrow.Author.Rules.{rules}
use Rattle.text_langtags.proofs.accepts_tag.Goals as goal

pub returns-then-may_end : goal.returns-then-may_end
unfolding well_formed_so_far
returns-then-may_end c = rw (rw c.stage_behind.ensures at (sym c.may_end.ensures ∙ c.if-may_end.true))

pub returns : goal.returns
unfolding well_formed_so_far
returns c = rw (rw c.stage_behind.ensures at (sym c.may_end.ensures ∙ c.if-may_end.false)) c.is_word.ensures
