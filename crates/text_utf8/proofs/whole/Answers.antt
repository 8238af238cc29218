use native.Mathlib.Omega.{arith}
use Rattle.text_utf8.proofs.Pieces as laws
use borrow.Author.Rules.{rules}
use Rattle.text_utf8.proofs.whole.Goals as goal

pub returns : goal.returns
returns c = laws.whole_at _ _ (omega arith) c.goes_on.ensures
