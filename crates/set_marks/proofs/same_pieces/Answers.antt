use Prim.Native.Nat.{◌-◌}
use lib.ListN.{length}
use native.Mathlib.Omega.{arith}
use borrow.Author.Rules.{rules}
use Rattle.set_marks.proofs.Values as values
use Rattle.set_marks.proofs.same_pieces.Goals as goal

pub pieces-init : goal.pieces-init
pieces-init c = values.equals-start _ _ _ _

pub returns-in-None-value_piece : goal.returns-in-None-value_piece
returns-in-None-value_piece c =
    values.equals_end c.pieces.invariant (values.end_in _ c.value_piece.ensures.value c.in-None.is) (values.end_in _ c.value_piece-in-None.ensures.value c.in-None-value_piece.is)

pub returns-in-Some-value_piece : goal.returns-in-Some-value_piece
returns-in-Some-value_piece c =
    values.equals_shorter c.pieces.invariant (values.end_in _ c.value_piece.ensures.value c.in-None.is) (values.byte_in _ c.value_piece-in-None.ensures.value c.in-Some-value_piece.is)

pub returns-in-None-value_piece-2 : goal.returns-in-None-value_piece-2
returns-in-None-value_piece-2 c =
    values.equals-longer c.pieces.invariant (values.byte_in _ c.value_piece.ensures.value c.in-Some.is) (values.end_in _ c.value_piece-in-Some.ensures.value c.in-None-value_piece-2.is)

pub returns-then-b-c : goal.returns-then-b-c
returns-then-b-c c =
    values.equals_stop c.pieces.invariant (values.byte_in _ c.value_piece.ensures.value c.in-Some.is) (values.byte_in _ c.value_piece-in-Some.ensures.value c.in-Some-value_piece-2.is) c.if-b-c.true

pub pieces-smaller : goal.pieces-smaller
pieces-smaller c = omega (arith, values.byte_in _ c.value_piece.ensures.value c.in-Some.is)

pub pieces-preserved : goal.pieces-preserved
pieces-preserved c =
    values.equals_go c.pieces.invariant (values.byte_in _ c.value_piece.ensures.value c.in-Some.is) (values.byte_in _ c.value_piece-in-Some.ensures.value c.in-Some-value_piece-2.is) c.if-b-c.false
