use native.Mathlib.Omega.{arith}
use Rattle.text_utf8.proofs.Pieces as laws
use borrow.Author.Rules.{rules}
use Rattle.text_utf8.proofs.first_faults.Goals as goal

pub returns-then-wides-eq0 : goal.returns-then-wides-eq0
returns-then-wides-eq0 c = laws.judged_ascii c.wides.ensures c.if-wides-eq0.true (omega arith)

pub returns : goal.returns
returns c = laws.judged_three (omega arith) c.wrong.ensures c.wrong-2.ensures c.wrong-3.ensures
