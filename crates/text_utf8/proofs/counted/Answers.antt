use mathlib.Core.Path.{sym, ◌∙◌}
use borrow.Author.Rules.{rules}
use Rattle.text_utf8.proofs.counted.Goals as goal

pub returns-then-is_tail : goal.returns-then-is_tail
returns-then-is_tail c = rw (sym c.is_tail.ensures ∙ c.if-is_tail.true)

pub returns-else-is_tail : goal.returns-else-is_tail
returns-else-is_tail c = rw (sym c.is_tail.ensures ∙ c.if-is_tail.false)
