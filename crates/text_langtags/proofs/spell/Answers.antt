use mathlib.Core.Path.{sym, ◌∙◌}
use native.Mathlib.Omega.{arith}
use borrow.Author.Tests.{le-leb, lt-leb, not-true, not-false}
use Rattle.text_langtags.specs.Inner.{spelled}
use Rattle.text_langtags.proofs.Words.{spelled_range}
use borrow.Author.Rules.{rules}
use Rattle.text_langtags.proofs.spell.Goals as goal

pub returns-then-not-is_spelled : goal.returns-then-not-is_spelled
unfolding spelled
returns-then-not-is_spelled c = rw (sym c.is_spelled.ensures ∙ c.if-not-is_spelled.true)

pub returns-then-w-ge208215748530929664 : goal.returns-then-w-ge208215748530929664
unfolding spelled
returns-then-w-ge208215748530929664 c = rw (sym c.is_spelled.ensures ∙ c.if-not-is_spelled.false, le-leb 208215748530929664 c.args.w (omega arith))

pub overflow_sub-result : goal.overflow_sub-result
overflow_sub-result c = omega (arith, c.wide-k.ensures, c.lower.ensures, (spelled_range c.args.b (sym c.is_spelled.ensures ∙ c.if-not-is_spelled.false)).0)

pub returns : goal.returns
unfolding spelled
returns c = rw (sym c.is_spelled.ensures ∙ c.if-not-is_spelled.false, lt-leb 208215748530929664 c.args.w (omega arith), c.wide-k.ensures, c.lower.ensures)
