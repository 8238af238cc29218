use lib.ListN.{length-set}
use Rattle.set_writer.proofs.Items as items
use native.Mathlib.Omega.{arith}
use borrow.Author.Tests.{eq-eqb, ne_eqb}
use Rattle.set_writer.specs.Inner.{closing_bytes}
use borrow.Author.Rules.{rules}
use Rattle.set_writer.proofs.Fills as fills
use Rattle.set_writer.proofs.put_close.Goals as goal

pub bounds-out-0 : goal.bounds-out-0
unfolding closing_bytes
bounds-out-0 c = omega (arith, rw (eq-eqb _ 0 (c.if-at-eq0.true)) at (c.requires))

pub bounds-out-1 : goal.bounds-out-1
unfolding closing_bytes
bounds-out-1 c = omega (arith, rw (eq-eqb _ 0 (c.if-at-eq0.true)) at (c.requires), length-set (c.args.out.now) 0 123)

pub returns-then-at-eq0 : goal.returns-then-at-eq0
returns-then-at-eq0 c =
    fills.both (items.close_none _ _ (c.if-at-eq0.true))

pub bounds-out-at : goal.bounds-out-at
unfolding closing_bytes
bounds-out-at c = omega (arith, rw (ne_eqb _ 0 (c.if-at-eq0.false)) at (c.requires))

pub returns : goal.returns
returns c =
    fills.both (items.close_some _ _ (c.if-at-eq0.false))
