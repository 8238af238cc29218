use native.Mathlib.Omega.{arith}
use borrow.Author.Tests.{le-leb, lt-leb}
use Rattle.base_bytes.specs.Bytes.{within}
use Rattle.text_langtags.specs.Letters.{small}
use borrow.Author.Rules.{rules}
use Rattle.text_langtags.proofs.lower.Goals as goal

pub returns-then-b-lt65 : goal.returns-then-b-lt65
unfolding small within
returns-then-b-lt65 c = rw (lt-leb 65 c.args.b (omega arith))

pub returns-then-b-gt90 : goal.returns-then-b-gt90
unfolding small within
returns-then-b-gt90 c = rw (le-leb 65 c.args.b (omega arith), lt-leb c.args.b 90 (omega arith))

pub returns : goal.returns
unfolding small within
returns c = rw (le-leb 65 c.args.b (omega arith), le-leb c.args.b 90 (omega arith))
