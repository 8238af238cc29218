use mathlib.Core.Path.{sym}
use native.Mathlib.Omega.{arith}
use lib.Seq.{length-take-le}
use Rattle.read_once.proofs.Values as values
use Rattle.read_once.proofs.Nexts as nexts
use borrow.Author.Rules.{rules}
use Rattle.read_once.proofs.next_move.Reads as reads
use Rattle.read_once.proofs.next_move.Lts as lts
use Rattle.read_once.proofs.piece.Reads as piece-reads
use Rattle.read_once.proofs.space_end.Reads as space-end-reads
use Rattle.read_once.proofs.token_move.Reads as token-move-reads
use Rattle.read_once.proofs.next_move.Goals as goal

-- src/lib.rt:515:26
pub slice_bounds-space_end-end : goal.slice_bounds-space_end-end
slice_bounds-space_end-end c = sym (length-take-le c.args.to c.args.text.now (omega (arith, c.requires.0.mid, c.requires.0.high)))

-- src/lib.rt:517:9
pub returns-then-from-to : goal.returns-then-from-to
returns-then-from-to c = nexts.token_next c.requires.0 _ c.space_end-from.ensures c.if-from-to.true c.token_move.ensures

-- src/lib.rt:519:5
pub piece-requires : goal.piece-requires
piece-requires c = ((values.between c.requires.0 c.args.kind c.space_end-from.ensures).1, omega (arith, c.requires.0.mid, c.requires.0.high))

-- src/lib.rt:503:1
pub returns : goal.returns
returns c = nexts.piece_next c.requires.0 _ c.space_end-from.ensures _ c.if-from-to.false c.piece.ensures
