use Prim.Native.Nat.{◌-◌}
use lib.ListN.{length}
use native.Mathlib.Omega.{arith}
use borrow.Author.Rules.{rules}
use Rattle.set_marks.proofs.Values as values
use Rattle.set_writer.proofs.Writes as writes
use Rattle.set_writer.proofs.Fills as fills
use Rattle.set_writer.proofs.put_escaped.Goals as goal

pub loop-b-init : goal.loop-b-init
loop-b-init c = writes.writes_start _ _ _ _ (c.requires)

pub put_marked-k-requires : goal.put_marked-k-requires
put_marked-k-requires c = writes.writes_room c.loop-b.invariant (values.byte_in _ c.value_piece.ensures.value c.in-Some.is)

pub loop-b-smaller : goal.loop-b-smaller
loop-b-smaller c = omega (arith, values.byte_in _ c.value_piece.ensures.value c.in-Some.is)

pub loop-b-preserved : goal.loop-b-preserved
loop-b-preserved c =
    writes.writes_go c.loop-b.invariant (values.byte_in _ c.value_piece.ensures.value c.in-Some.is) c.put_marked-k.ensures.value c.put_marked-k.ensures.out_after

pub shape_of-out : goal.shape_of-out
shape_of-out c = c.loop-b.invariant.fills.long

pub returns : goal.returns
returns c =
    fills.both (writes.writes_end (c.loop-b.invariant) (values.end_in _ (c.value_piece.ensures.value) (c.in_default.is)))
