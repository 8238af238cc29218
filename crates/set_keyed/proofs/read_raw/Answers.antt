use native.Mathlib.Omega.{arith}
use Rattle.set_marks.proofs.Values as values
use Rattle.set_keyed.proofs.Numbers as laws
use Rattle.set_keyed.proofs.read_raw.Goals as goal

pub loop-b-init : goal.loop-b-init
loop-b-init c = laws.reading_start _ _ _

pub loop-b-smaller : goal.loop-b-smaller
loop-b-smaller c = omega (arith, values.byte_in _ (c.value_piece.ensures.value) (c.in-Some.is))

pub loop-b-preserved : goal.loop-b-preserved
loop-b-preserved c = rw c.step-d.ensures.value (laws.reading_go (c.loop-b.invariant) (values.byte_in _ (c.value_piece.ensures.value) (c.in-Some.is)))

pub returns : goal.returns
returns c = laws.reading_end (c.loop-b.invariant) (values.end_in _ (c.value_piece.ensures.value) (c.in_default.is))
