use Rattle.std.specs.Prelude.{None}
use lib.ListN.{take}
use Rattle.set_table.specs.Types.{two}
use Rattle.set_table.specs.Rows.{slot_in}
use Rattle.set_keyed.specs.Keyed.{slot_found}
use Rattle.set_keyed.proofs.Slots as laws
use Rattle.set_keyed.proofs.found_in.Given as goal

abbrev pub invariant-loop-p : goal.invariant-loop-p
invariant-loop-p l = laws.Seeks (λ p. slot_found (two l.first l.second) (take l.nkey l.keys) l.name (slot_in p)) l.fn.order l.n l.p-index None
