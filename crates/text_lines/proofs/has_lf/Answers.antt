use Prim.Native.Nat.{ℕ}
use native.Mathlib.Nat.{add-zero}
use native.Mathlib.Omega.{arith}
use lib.ListN.{length-take, length-drop}
use Rattle.text_lines.proofs.Lines as laws
use Rattle.text_lines.proofs.has_lf.Goals as goal

-- `has_lf` goes over all 16 bytes and keeps whether the LF stands among those passed. Assumes nothing.

pub loop-b-init : goal.loop-b-init
loop-b-init c = rw (add-zero c.args.i) (laws.looked_start _ _)

pub loop-b-preserved : goal.loop-b-preserved
loop-b-preserved c = laws.looked_on _ c.loop-b.invariant c.loop-b-test.true c.or_lf-found.ensures

pub returns : goal.returns
returns c = laws.looked_end c.loop-b.invariant (omega (arith, length-take {A = ℕ}, length-drop {A = ℕ}))
