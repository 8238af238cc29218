use mathlib.Core.Path.{◌≡◌, sym, ◌∙◌}
use native.Mathlib.Omega.{arith}
use Rattle.set_loose.proofs.Named as laws
use Rattle.set_loose.proofs.row_named.Goals as goal
use Rattle.set_loose.proofs.row_named.Goals.{then-n-k-via-then-n-k, then-n-k-via-else-n-k+then-is_named}

pub loop-k-init : goal.loop-k-init
loop-k-init c = laws.finds_start _ _ _ _ c.well_formed.1.1.0.1.0.1

pub returns-then-n-k : goal.returns-then-n-k
returns-then-n-k c =
    let inv = c.loop-k.invariant in
    elim c.then-n-k.branch [ then-n-k-via-then-n-k w ↦ laws.finds_end inv (omega arith) | then-n-k-via-else-n-k+then-is_named w ↦ laws.finds_stop inv (omega arith) (omega arith) (sym w.is_named.ensures ∙ w.if-is_named.true) ]

pub loop-k-preserved : goal.loop-k-preserved
loop-k-preserved c = laws.finds_go c.loop-k.invariant (omega arith) (omega arith) (sym c.is_named.ensures ∙ c.if-is_named.false)

pub returns : goal.returns
returns c = let e : 64 ≡ c.loop-k.k = omega arith in e ∙ laws.finds_out c.loop-k.invariant (omega arith)
