use Prim.Native.Nat.{◌-◌}
use lib.ListN.{length}
use native.Mathlib.Omega.{arith}
use borrow.Author.Rules.{rules}
use Rattle.text_escapes.proofs.Laws as laws
use Rattle.text_escapes.proofs.Pieces.{byte_at, end_at}
use Rattle.text_escapes.proofs.put_unescaped.Goals as goal

pub pieces-init : goal.pieces-init
pieces-init c = laws.writes_start _ _ _ c.requires

pub bounds-buf-k : goal.bounds-buf-k
bounds-buf-k c = omega (arith, laws.writes_some c.pieces.invariant (byte_at c.piece_at.ensures.value c.in-Some.is))

pub overflow_add-k : goal.overflow_add-k
overflow_add-k c = omega (arith, laws.writes_some c.pieces.invariant (byte_at c.piece_at.ensures.value c.in-Some.is))

pub pieces-smaller : goal.pieces-smaller
pieces-smaller c = omega (arith, byte_at c.piece_at.ensures.value c.in-Some.is)

pub pieces-preserved : goal.pieces-preserved
pieces-preserved c = laws.writes_go c.pieces.invariant (byte_at c.piece_at.ensures.value c.in-Some.is)

pub shape_of-buf : goal.shape_of-buf
shape_of-buf c = c.pieces.invariant.long

pub returns : goal.returns
returns c = let r = laws.writes_end c.pieces.invariant (end_at c.piece_at.ensures.value c.in-None.is) in record { value = r.0; buf_after = r.1 }
