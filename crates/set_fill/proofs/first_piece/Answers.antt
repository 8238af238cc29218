use mathlib.Core.Path.{sym}
use native.Mathlib.Omega.{arith}
use lib.ListN.{take, length-take}
use lib.Seq.{length-take-le}
use Rattle.base_lists.proofs.Runs as runs
use Rattle.set_fill.proofs.Walk as walk
use borrow.Author.Rules.{rules}
use Rattle.set_fill.proofs.first_piece.Goals as goal

pub slice_bounds-space_end-end : goal.slice_bounds-space_end-end
slice_bounds-space_end-end c = sym (length-take-le c.args.c.to c.args.s.now (omega (arith, c.requires)))

pub returns-then-from-to : goal.returns-then-from-to
returns-then-from-to c =
    λ m. walk.whole_class c.requires.0 c.space_end-from.ensures m c.requires.1 c.if-from-to.true c.value_of.ensures c.before_tokens.ensures

pub piece-requires : goal.piece-requires
piece-requires c =
    let a = c.args in omega (arith, c.requires, length-take a.c.to a.s.now, runs.inside _ (take a.c.to a.s.now) c.space_end-from.ensures (omega (arith, c.requires, length-take a.c.to a.s.now)))

pub returns : goal.returns
returns c = λ m. walk.class_next (c.requires.0) c.space_end-from.ensures m c.if-from-to.false c.piece.ensures
