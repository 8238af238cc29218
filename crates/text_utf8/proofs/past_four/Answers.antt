use mathlib.Core.Path.{sym, ◌∙◌}
use borrow.Author.Tests.{not-true, not-false}
use native.Mathlib.Omega.{arith}
use Rattle.text_utf8.proofs.Laws as laws
use borrow.Author.Rules.{rules}
use Rattle.text_utf8.proofs.past_four.Goals as goal

pub returns-then-s-i-lt4 : goal.returns-then-s-i-lt4
returns-then-s-i-lt4 c = laws.cut c.requires (omega arith)

pub returns-then-b-lo : goal.returns-then-b-lo
returns-then-b-lo c = laws.below (laws.owes c.requires) (omega arith) (omega arith)

pub returns-then-hi-b : goal.returns-then-hi-b
returns-then-hi-b c = laws.above (laws.owes c.requires) (omega arith) (omega arith) (omega arith)

pub returns-then-not-is_tail : goal.returns-then-not-is_tail
returns-then-not-is_tail c = laws.no_tail (laws.third c.requires (omega arith) (omega arith) (omega arith)) (omega arith) (sym c.is_tail.ensures ∙ c.if-not-is_tail.true)

pub returns : goal.returns
returns c = laws.last (laws.fourth (laws.third c.requires (omega arith) (omega arith) (omega arith)) (omega arith) (sym c.is_tail.ensures ∙ c.if-not-is_tail.false)) (omega arith) (omega arith) c.past_tail.ensures
