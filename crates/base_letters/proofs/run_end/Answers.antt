use mathlib.Core.Path.{sym, ◌∙◌}
use Prim.Native.Nat.{ℕ}
use native.Mathlib.Omega.{arith}
use mathlib.Core.Bool.{Bool}
use lib.ListN.{drop, length-drop}
use Rattle.base_lists.proofs.Scan.{run_le}
use Rattle.base_lists.proofs.Runs as runs
use Rattle.base_letters.specs.Classes.{is_of}
use Rattle.base_letters.proofs.run_end.Goals as goal

pub loop-k-init : goal.loop-k-init
loop-k-init c = runs.start _ _ _

pub returns-then-not-is_of : goal.returns-then-not-is_of
returns-then-not-is_of c = runs.stop c.loop-k.invariant (omega arith) (sym c.is_of.ensures ∙ c.if-not-is_of.true)

pub loop-k-preserved : goal.loop-k-preserved
loop-k-preserved c = runs.go c.loop-k.invariant (omega arith) (sym c.is_of.ensures ∙ c.if-not-is_of.false)

pub returns : goal.returns
returns c =
    let f : ℕ → Bool = is_of c.args.table.now c.args.mask in
    omega (arith, runs.end c.loop-k.invariant (omega arith), run_le f (drop c.args.i c.args.s.now), length-drop c.args.i c.args.s.now)
