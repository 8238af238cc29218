use mathlib.Core.Path.{◌≡◌, ◌∙◌}
use Prim.Native.Nat.{max}
use native.Mathlib.Omega.{arith}
use lib.ListN.{length}
use Rattle.sheet_records.proofs.Places as laws
use Rattle.sheet_records.proofs.id_end.Goals as goal

-- `id_end` stops at the first LF, or where no byte is left. Assumes nothing.

pub loop-i-init : goal.loop-i-init
loop-i-init c = (laws.ends-start _ _, omega arith)

pub returns-then-index-i-eq10 : goal.returns-then-index-i-eq10
returns-then-index-i-eq10 c = laws.ends_stop c.loop-i.invariant.0 (omega arith) c.if-index-i-eq10.true

pub loop-i-preserved : goal.loop-i-preserved
loop-i-preserved c = (laws.ends_go c.loop-i.invariant.0 (omega arith) c.if-index-i-eq10.false, omega arith)

pub returns : goal.returns
returns c =
    let e : max c.args.from (length c.args.index.now) ≡ c.loop-i.i = omega (arith, c.loop-i.invariant.1, c.loop-i.auto.i) in
    c.max.ensures ∙ (e ∙ laws.ends_end c.loop-i.invariant.0 (omega arith))
