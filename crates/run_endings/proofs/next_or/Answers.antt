use mathlib.Core.Path.{ap}
use mathlib.Core.Bool.{not}
use borrow.Author.Tests.{not-true, not-false}
use Rattle.run_endings.proofs.next_or.Goals as goal

pub returns-then-not-again : goal.returns-then-not-again
returns-then-not-again c = rw (not-true c.args.again ((ap not c.if-not-again.true)))

pub returns-then-tried : goal.returns-then-tried
returns-then-tried c = rw (not-false c.args.again ((ap not c.if-not-again.false)), c.if-tried.true)

pub returns : goal.returns
returns c = rw (not-false c.args.again ((ap not c.if-not-again.false)), c.if-tried.false)
