use native.Mathlib.Omega.{arith}
use Rattle.set_table.specs.Types.{max_keys, zero_row}
use Rattle.set_merge.proofs.Fronts as fronts
use Rattle.set_merge.proofs.first_keys.Goals as goal

pub returns : goal.returns
returns c = rw c.copy_from_slice.ensures.after (fronts.front max_keys zero_row c.args.from c.args.n (omega arith) c.requires)
