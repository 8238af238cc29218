use native.Mathlib.Omega.{arith}
use Rattle.set_table.specs.Types.{max_classes, zero_value}
use Rattle.set_merge.proofs.Fronts as fronts
use Rattle.set_merge.proofs.first_classes.Goals as goal

pub returns : goal.returns
returns c = rw c.copy_from_slice.ensures.after (fronts.front max_classes zero_value c.args.from c.args.n (omega arith) c.requires)
