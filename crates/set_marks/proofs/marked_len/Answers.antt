use mathlib.Core.Path.{sym, ◌∙◌}
use Rattle.set_marks.proofs.Values as values
use borrow.Author.Rules.{rules}
use Rattle.set_marks.proofs.marked_len.Goals as goal

pub returns-then-is_marked : goal.returns-then-is_marked
returns-then-is_marked c = rw (values.marked_yes _ (sym (c.is_marked.ensures) ∙ (c.if-is_marked.true)))

pub returns : goal.returns
returns c = rw (values.marked_no _ (sym (c.is_marked.ensures) ∙ (c.if-is_marked.false)))
