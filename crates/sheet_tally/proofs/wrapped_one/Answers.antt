use mathlib.Core.Path.{refl, sym}
use mathlib.Core.Bool.{cond}
use borrow.Author.Tests.{lt-ltb, le-ltb}
use Rattle.sheet_tally.proofs.wrapped_one.Goals as goal

pub returns-then-lines-gt1 : goal.returns-then-lines-gt1
returns-then-lines-gt1 c = rw (lt-ltb 1 _ c.if-lines-gt1.true)

pub returns : goal.returns
returns c = rw (le-ltb 1 _ c.if-lines-gt1.false)
