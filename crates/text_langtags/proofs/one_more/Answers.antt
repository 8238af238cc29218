use native.Mathlib.Omega.{arith}
use borrow.Author.Tests.{le-leb, lt-leb}
use borrow.Author.Rules.{rules}
use Rattle.text_langtags.proofs.one_more.Goals as goal

pub returns-then-size-ge9 : goal.returns-then-size-ge9
returns-then-size-ge9 c = rw (le-leb 9 c.args.size (omega arith))

pub returns : goal.returns
returns c = rw (lt-leb 9 c.args.size (omega arith))
