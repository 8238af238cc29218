use mathlib.Core.Path.{sym}
use native.Mathlib.Omega.{arith}
use lib.ListN.{take, length-take}
use lib.Seq.{length-take-le}
use Rattle.base_lists.proofs.Runs as runs
use borrow.Author.Rules.{rules}
use Rattle.set_fill.proofs.piece.Goals as goal

pub slice_bounds-piece_end-end : goal.slice_bounds-piece_end-end
slice_bounds-piece_end-end c = sym (length-take-le c.args.c.to c.args.s.now (omega (arith, c.requires)))

pub value_of-requires : goal.value_of-requires
value_of-requires c =
    let a = c.args in omega (arith, c.requires, length-take a.c.to a.s.now, runs.inside _ (take a.c.to a.s.now) c.piece_end-e.ensures (omega (arith, c.requires, length-take a.c.to a.s.now)))

pub returns : goal.returns
returns c = rw (c.value_of.ensures, c.value_at.ensures, c.piece_end-e.ensures)
