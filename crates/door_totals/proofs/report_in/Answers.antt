use mathlib.Core.Path.{ap}
use mathlib.Core.List.{List}
use Prim.Native.Nat.{ℕ}
use native.Mathlib.Omega.{arith}
use Rattle.sheet_totals.specs.Totals.{empty_totals}
use Rattle.door_totals.proofs.Says as laws
use Rattle.door_totals.proofs.report_in.Goals as goal

pub returns : goal.returns
returns c =
    rw c.copy_from_slice.ensures.after
    (ap (λ (l : List ℕ). record { numbers = l }) (laws.told_copied c.min-n.result empty_totals.numbers c.args.totals.now (omega (arith, c.min-n.ensures))))
