use Prim.Native.Nat.{◌-◌}
use lib.ListN.{length}
use native.Mathlib.Omega.{arith}
use borrow.Author.Rules.{rules}
use Rattle.text_escapes.proofs.Laws as laws
use Rattle.text_escapes.proofs.Pieces.{byte_at, end_at}
use Rattle.text_escapes.proofs.unescaped_len.Goals as goal

pub pieces-init : goal.pieces-init
pieces-init c = laws.counts_start _

pub overflow_add-n : goal.overflow_add-n
overflow_add-n c = omega (arith, byte_at c.piece_at.ensures.value c.in-Some.is)

pub pieces-smaller : goal.pieces-smaller
pieces-smaller c = omega (arith, byte_at c.piece_at.ensures.value c.in-Some.is)

pub pieces-preserved : goal.pieces-preserved
pieces-preserved c = laws.counts_go c.pieces.invariant (byte_at c.piece_at.ensures.value c.in-Some.is)

pub returns : goal.returns
returns c = laws.counts_end c.pieces.invariant (end_at c.piece_at.ensures.value c.in-None.is)
