use Prim.Native.Nat.{◌-◌}
use lib.ListN.{length}
use native.Mathlib.Omega.{arith}
use borrow.Author.Rules.{rules}
use Rattle.text_escapes.proofs.Laws as laws
use Rattle.text_escapes.proofs.Pieces.{byte_at, end_at}
use Rattle.text_escapes.proofs.put_unescaped.Given as goal

abbrev pub invariant-pieces : goal.invariant-pieces
invariant-pieces l = laws.Writes l.initial.buf l.at l.s l.buf l.k l.i

abbrev pub decreases-pieces : goal.decreases-pieces
decreases-pieces l = length l.s - l.i
