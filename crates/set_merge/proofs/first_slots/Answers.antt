use native.Mathlib.Omega.{arith}
use Rattle.set_table.specs.Types.{max_slots, zero_slot}
use Rattle.set_merge.proofs.Fronts as fronts
use Rattle.set_merge.proofs.first_slots.Goals as goal

pub returns : goal.returns
returns c = rw c.copy_from_slice.ensures.after (fronts.front max_slots zero_slot c.args.from c.args.n (omega arith) c.requires)
