use native.Mathlib.Omega.{arith}
use borrow.Author.Tests.{lt-ltb, le-ltb}
use Rattle.set_table.specs.Types.{max_classes}
use Rattle.set_fill.proofs.over.Goals as goal

pub returns-then-count-gt-CLASSES : goal.returns-then-count-gt-CLASSES
returns-then-count-gt-CLASSES c = rw (lt-ltb max_classes c.args.count (omega (arith, c.if-count-gt-CLASSES.true)))

pub returns : goal.returns
returns c = rw (le-ltb max_classes c.args.count (omega (arith, c.if-count-gt-CLASSES.false)))
