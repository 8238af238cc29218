use Prim.Native.Nat.{◌-◌}
use lib.ListN.{length}
use native.Mathlib.Omega.{arith}
use borrow.Author.Rules.{rules}
use Rattle.set_marks.proofs.Values as values
use Rattle.set_marks.proofs.escaped_len.Goals as goal

pub pieces-init : goal.pieces-init
pieces-init c = values.counts_start _ _

pub overflow_add-n : goal.overflow_add-n
overflow_add-n c = omega (arith, values.byte_in _ c.value_piece.ensures.value c.in-Some.is, c.marked_len-n.ensures, c.pieces.invariant)

pub pieces-smaller : goal.pieces-smaller
pieces-smaller c = omega (arith, values.byte_in _ (c.value_piece.ensures.value) (c.in-Some.is))

pub pieces-preserved : goal.pieces-preserved
pieces-preserved c = rw c.marked_len-n.ensures (values.counts_go c.pieces.invariant (values.byte_in _ c.value_piece.ensures.value c.in-Some.is))

pub returns : goal.returns
returns c = values.counts_end (c.pieces.invariant) (values.end_in _ (c.value_piece.ensures.value) (c.in-None.is))
