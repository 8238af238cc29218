use Prim.Native.Nat.{◌-◌}
use lib.ListN.{length}
use native.Mathlib.Omega.{arith}
use borrow.Author.Rules.{rules}
use Rattle.set_commas.proofs.Loops as loops
use Rattle.set_commas.proofs.Steps.{turn_at, stop_at}
use Rattle.set_commas.proofs.piece_count.Goals as goal

pub bytes-init : goal.bytes-init
bytes-init c = loops.counts_start _ _

pub bytes-smaller-then-b-ne44 : goal.bytes-smaller-then-b-ne44
bytes-smaller-then-b-ne44 c = omega (arith, turn_at _ c.value_piece.ensures.value c.in-Some.is)

pub bytes-preserved-then-b-ne44 : goal.bytes-preserved-then-b-ne44
bytes-preserved-then-b-ne44 c = loops.counts_go c.bytes.invariant (turn_at _ c.value_piece.ensures.value c.in-Some.is) c.if-b-ne44.true

pub overflow_add-n : goal.overflow_add-n
overflow_add-n c = omega (arith, turn_at _ c.value_piece.ensures.value c.in-Some.is, c.bytes.invariant)

pub bytes-smaller : goal.bytes-smaller
bytes-smaller c = omega (arith, turn_at _ c.value_piece.ensures.value c.in-Some.is)

pub bytes-preserved : goal.bytes-preserved
bytes-preserved c = loops.counts_comma c.bytes.invariant (turn_at _ c.value_piece.ensures.value c.in-Some.is) c.if-b-ne44.false

pub returns : goal.returns
returns c = loops.counts_end c.bytes.invariant (stop_at _ c.value_piece.ensures.value c.in-None.is)
