use native.Mathlib.Omega.{arith}
use borrow.Author.Tests.{le-leb, lt-leb}
use borrow.Author.Rules.{rules}
use Rattle.text_langtags.proofs.behind_extlang.Goals as goal

pub returns-then-n-lt3 : goal.returns-then-n-lt3
returns-then-n-lt3 c = rw (lt-leb 3 c.args.n (omega arith))

pub returns : goal.returns
returns c = rw (le-leb 3 c.args.n (omega arith))
