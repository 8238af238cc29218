use Rattle.run_stops.proofs.Laws as laws
use native.Mathlib.Omega.{arith}
use mathlib.Core.Path.{sym, ◌∙◌}
use Prim.Native.Nat.{◌+◌}
use borrow.Author.Rules.{rules}
use Rattle.run_stops.proofs.entries_in.Reads as reads
use Rattle.run_stops.proofs.entries_in.Lts as lts
use Rattle.run_stops.proofs.behind_last.Reads as behind-last-reads
use Rattle.run_stops.proofs.closes_at.Reads as closes-at-reads
use Rattle.run_stops.proofs.stops_at.Reads as stops-at-reads
use Rattle.run_stops.proofs.entries_in.Goals as goal

-- src/lib.rt:258:13
pub overflow_add-n : goal.overflow_add-n
overflow_add-n c = omega (arith, laws.stop_in c.args.core.now c.behind_last-from.ensures c.stops_at.ensures)

-- src/lib.rt:260:16
pub overflow_add-result : goal.overflow_add-result
overflow_add-result c =
    omega (arith, laws.closes_in c.args.core.now c.behind_last-from.result (c.behind_last-from.result + c.stops_at.result) (sym c.closes_at.ensures ∙ c.if-closes_at.true))

-- src/lib.rt:260:9
pub returns-then-closes_at : goal.returns-then-closes_at
returns-then-closes_at c = laws.entries_past c.args.core.now c.behind_last-from.ensures c.stops_at.ensures c.closes_at.ensures c.if-closes_at.true

-- src/lib.rt:254:1
pub returns : goal.returns
returns c = laws.entries_there c.args.core.now c.behind_last-from.ensures c.stops_at.ensures c.closes_at.ensures c.if-closes_at.false
