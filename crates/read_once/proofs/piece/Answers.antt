use mathlib.Core.Path.{sym}
use native.Mathlib.Omega.{arith}
use lib.Seq.{length-take-le}
use borrow.Author.Rules.{rules}
use Rattle.read_once.proofs.piece.Goals as goal

pub slice_bounds-piece_end-end : goal.slice_bounds-piece_end-end
slice_bounds-piece_end-end c = sym (length-take-le c.args.to c.args.text.now (omega (arith, c.requires)))

pub returns : goal.returns
returns c = rw (c.piece_end-e.ensures)
