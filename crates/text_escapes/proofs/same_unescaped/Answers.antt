use Prim.Native.Nat.{◌-◌}
use lib.ListN.{length}
use native.Mathlib.Omega.{arith}
use borrow.Author.Rules.{rules}
use Rattle.text_escapes.proofs.Laws as laws
use Rattle.text_escapes.proofs.Pieces.{byte_at, end_at}
use Rattle.text_escapes.proofs.same_unescaped.Goals as goal

pub pieces-init : goal.pieces-init
pieces-init c = laws.compares_start _ _

pub bounds-t-k : goal.bounds-t-k
bounds-t-k c = omega (arith, c.if-t-k.false)

pub overflow_add-k : goal.overflow_add-k
overflow_add-k c = omega (arith, c.if-t-k.false)

pub pieces-smaller : goal.pieces-smaller
pieces-smaller c = omega (arith, byte_at c.piece_at.ensures.value c.in-Some.is)

pub pieces-preserved : goal.pieces-preserved
pieces-preserved c =
    laws.compares_go c.pieces.invariant (byte_at c.piece_at.ensures.value c.in-Some.is) (omega (arith, c.if-t-k.false)) c.if-b-t.false

pub returns-in-None : goal.returns-in-None
returns-in-None c = laws.compares_end c.pieces.invariant (end_at c.piece_at.ensures.value c.in-None.is)

pub returns-then-t-k : goal.returns-then-t-k
returns-then-t-k c = laws.compares_short c.pieces.invariant (byte_at c.piece_at.ensures.value c.in-Some.is) (omega (arith, c.if-t-k.true))

pub returns-then-b-t : goal.returns-then-b-t
returns-then-b-t c =
    laws.compares_stop c.pieces.invariant (byte_at c.piece_at.ensures.value c.in-Some.is) (omega (arith, c.if-t-k.false)) c.if-b-t.true
