use native.Mathlib.Omega.{arith}
use Rattle.text_utf8.proofs.Laws as laws
use borrow.Author.Rules.{rules}
use Rattle.text_utf8.proofs.past_three.Goals as goal

pub returns-then-s-i-lt3 : goal.returns-then-s-i-lt3
returns-then-s-i-lt3 c = laws.cut c.requires (omega arith)

pub returns-then-b-lo : goal.returns-then-b-lo
returns-then-b-lo c = laws.below (laws.owes c.requires) (omega arith) (omega arith)

pub returns-then-hi-b : goal.returns-then-hi-b
returns-then-hi-b c = laws.above (laws.owes c.requires) (omega arith) (omega arith) (omega arith)

pub returns : goal.returns
returns c = laws.last (laws.third c.requires (omega arith) (omega arith) (omega arith)) (omega arith) (omega arith) c.past_tail.ensures
