use native.Mathlib.Omega.{arith}
use Rattle.set_writer.proofs.Items as items
use borrow.Author.Rules.{rules}
use Rattle.set_writer.proofs.Fills as fills
use Rattle.set_writer.proofs.close.Goals as goal

pub put_close-requires : goal.put_close-requires
put_close-requires c = (c.requires.at_in_bounds (c.if-really.true)).0

pub returns-then-really : goal.returns-then-really
returns-then-really c =
    fills.both (items.close_written c.args.out.now c.args.at c.if-really.true (c.requires.at_in_bounds c.if-really.true).1 c.put_close.ensures.value c.put_close.ensures.out_after)

pub returns-then-cap-end : goal.returns-then-cap-end
returns-then-cap-end c =
    fills.both (items.close_over c.args.out.now c.args.at c.if-really.false c.close_end-end.ensures (omega (arith, c.if-cap-end.true)))

pub returns : goal.returns
returns c =
    fills.both (items.close_measured c.args.out.now c.args.at c.if-really.false c.close_end-end.ensures (omega (arith, c.if-cap-end.false)))
