use mathlib.Core.Path.{refl}
use native.Mathlib.Omega.{arith}
use Rattle.run_refused.proofs.Leaves as laws
use Rattle.run_refused.proofs.pass_over.Goals as goal

pub loop-b-init : goal.loop-b-init
loop-b-init c = record { small = omega (arith, c.requires); rest = refl }

pub spot_after-spot-requires : goal.spot_after-spot-requires
spot_after-spot-requires c = omega (arith, c.loop-b.invariant.small)

pub loop-b-preserved : goal.loop-b-preserved
loop-b-preserved c = laws.passes_go (c.loop-b.invariant) (c.loop-b-test.true) (c.spot_after-spot.ensures)

pub returns : goal.returns
returns c = laws.passes_end (c.loop-b.invariant) (c.loop-b-test.false)
