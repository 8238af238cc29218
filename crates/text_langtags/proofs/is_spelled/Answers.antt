use mathlib.Core.Path.{sym, ◌∙◌}
use borrow.Author.Rules.{rules}
use Rattle.text_langtags.proofs.is_spelled.Goals as goal

pub returns-then-is_alnum : goal.returns-then-is_alnum
returns-then-is_alnum c = rw (sym c.is_alnum.ensures ∙ c.if-is_alnum.true)

pub returns : goal.returns
returns c = rw (sym c.is_alnum.ensures ∙ c.if-is_alnum.false)
