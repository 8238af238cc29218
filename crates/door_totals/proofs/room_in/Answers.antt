use native.Mathlib.Omega.{arith}
use borrow.Author.Tests.{le-leb, lt-leb}
use mathlib.Core.Path.{refl}
use Rattle.door_totals.specs.Kept.{room_in}
use Rattle.door_totals.proofs.room_in.Goals as goal

pub returns-then-totals-lt-PLACES : goal.returns-then-totals-lt-PLACES
unfolding room_in
returns-then-totals-lt-PLACES c = rw (lt-leb _ _ c.if-totals-lt-PLACES.true) refl

pub returns : goal.returns
unfolding room_in
returns c = rw (le-leb _ _ c.if-totals-lt-PLACES.false) refl
