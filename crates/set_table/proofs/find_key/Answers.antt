use mathlib.Core.Path.{◌≡◌, ◌∙◌, refl}
use Prim.Native.Nat.{◌-◌}
use native.Mathlib.Omega.{arith}
use borrow.Author.Rules.{rules}
use Rattle.set_table.specs.Types.{name_bytes, two, max_keys}
use Rattle.set_table.specs.declared.Name.{Name}
use Rattle.set_table.proofs.Keys as laws
use Rattle.set_table.proofs.find_key.Goals as goal
use Rattle.set_table.proofs.find_key.Goals.{then-n-k-via-then-n-k, then-n-k-via-else-n-k+then-is_named}

pub loop-k-init : goal.loop-k-init
loop-k-init c = λ name e. laws.finds_start _ _ _ _ c.well_formed.1.1.0.1.0.1

pub returns-then-n-k : goal.returns-then-n-k
returns-then-n-k c =
    let e = c.name_of-bytes.ensures in
    let inv = c.loop-k.invariant _ e in
    elim c.then-n-k.branch [ then-n-k-via-then-n-k w ↦ laws.finds_end inv (omega arith) | then-n-k-via-else-n-k+then-is_named w ↦ laws.finds_stop inv e w.is_named.ensures (omega arith) (omega arith) w.if-is_named.true ]

pub loop-k-preserved : goal.loop-k-preserved
loop-k-preserved c = λ name e. laws.finds_go (c.loop-k.invariant name e) e c.is_named.ensures (omega arith) (omega arith) c.if-is_named.false

pub returns : goal.returns
returns c = let e : 64 ≡ c.loop-k.k = omega arith in e ∙ laws.finds_out (c.loop-k.invariant _ c.name_of-bytes.ensures) (omega arith)
