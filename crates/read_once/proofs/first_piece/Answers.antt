use mathlib.Core.Path.{sym}
use native.Mathlib.Omega.{arith}
use lib.Seq.{length-take-le}
use borrow.Author.Rules.{rules}
use Rattle.read_once.proofs.Values as values
use Rattle.read_once.proofs.first_piece.Goals as goal

pub slice_bounds-space_end-end : goal.slice_bounds-space_end-end
slice_bounds-space_end-end c = sym (length-take-le c.args.to c.args.text.now (omega (arith, c.requires.0.mid, c.requires.0.high)))

pub returns-then-from-to : goal.returns-then-from-to
returns-then-from-to c = values.whole_class c.requires.0 _ c.space_end-from.ensures c.requires.1 c.if-from-to.true c.put.ensures

pub piece-requires : goal.piece-requires
piece-requires c = let z = values.between c.requires.0 c.args.kind c.space_end-from.ensures in (z.1, omega (arith, c.requires.0.mid, c.requires.0.high))

pub returns : goal.returns
returns c = values.first_class c.requires.0 _ c.space_end-from.ensures c.if-from-to.false c.requires.1 c.piece.ensures
