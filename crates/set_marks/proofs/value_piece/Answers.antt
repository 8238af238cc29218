use mathlib.Core.Path.{refl}
use lib.ListN.{length}
use native.Mathlib.Omega.{arith}
use borrow.Author.Tests.{le-leb, lt-leb}
use Rattle.base_refusals.proofs.Said.{said}
use Rattle.text_escapes.specs.Unescape.{piece_paper}
use Rattle.set_marks.specs.Marks.{piece_in}
use borrow.Author.Rules.{rules}
use Rattle.set_marks.proofs.value_piece.Goals as goal

pub returns-then-quoted : goal.returns-then-quoted
unfolding piece_in
returns-then-quoted c = said piece_paper refl (rw (c.if-quoted.true) (c.piece_at.ensures.value))

pub returns-then-s-i : goal.returns-then-s-i
unfolding piece_in
returns-then-s-i c = said piece_paper refl (rw (c.if-quoted.false, le-leb _ _ (c.if-s-i.true)))

pub returns : goal.returns
unfolding piece_in
returns c = said piece_paper refl (rw (c.if-quoted.false, lt-leb (length c.args.s.now) c.args.i (omega (arith, c.if-s-i.false))))
