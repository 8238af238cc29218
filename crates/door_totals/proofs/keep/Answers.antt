use mathlib.Core.Path.{refl}
use borrow.Author.Rules.{rules}
use Rattle.door_totals.proofs.keep.Goals as goal

pub returns-in-Err : goal.returns-in-Err
returns-in-Err c = record { value = rw c.in-Err.is (c.number.ensures); totals_after = rw c.in-Err.is (refl) }

pub returns-in-Ok : goal.returns-in-Ok
returns-in-Ok c = record { value = rw c.in-Ok.is (refl); totals_after = rw c.in-Ok.is (c.lay_numbers.ensures) }
