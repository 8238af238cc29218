use native.Mathlib.Omega.{arith}
use Rattle.text_utf8.proofs.Laws as laws
use borrow.Author.Rules.{rules}
use Rattle.text_utf8.proofs.past_two.Goals as goal

pub returns-then-left-lt2 : goal.returns-then-left-lt2
returns-then-left-lt2 c = laws.cut c.requires (omega arith)

pub returns-else-left-lt2 : goal.returns-else-left-lt2
returns-else-left-lt2 c = laws.last (laws.owes c.requires) (omega arith) (omega arith) c.past_tail.ensures
