use native.Mathlib.Omega.{arith}
use Rattle.set_items.proofs.Slots as laws
use borrow.Author.Rules.{rules}
use Rattle.set_items.proofs.class_item.Goals as goal

pub returns-then-many-n : goal.returns-then-many-n
returns-then-many-n c = laws.class_past c.args.many c.args.n _ (omega arith)

pub returns-then-n-ge-CLASSES : goal.returns-then-n-ge-CLASSES
returns-then-n-ge-CLASSES c = laws.class_out c.args.many c.args.n _ c.well_formed.0.1.0.1 (omega arith)

pub returns : goal.returns
returns c =
    laws.class_in c.args.many c.args.n _ (omega arith) c.well_formed.0.1.0.1 (omega arith)
