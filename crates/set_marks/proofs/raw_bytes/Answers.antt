use mathlib.Core.Path.{refl}
use native.Mathlib.Omega.{arith}
use Prim.Native.Nat.{zero-le}
use Rattle.set_marks.specs.Marks.{raw_bytes}
use Rattle.set_marks.proofs.Values as values
use borrow.Author.Rules.{rules}
use Rattle.set_marks.proofs.raw_bytes.Goals as goal

pub returns-in-Plain : goal.returns-in-Plain
unfolding raw_bytes
returns-in-Plain c = (rw (c.in-Plain.is) (c.range_of.ensures), values.range_fits _ _ _ _ (c.range_of.ensures) (omega (arith, c.in-Plain.known_told-1-own.given)))

pub returns-in-Quoted : goal.returns-in-Quoted
unfolding raw_bytes
returns-in-Quoted c = (rw (c.in-Quoted.is) (c.range_of-in-Quoted.ensures), values.range_fits _ _ _ _ (c.range_of-in-Quoted.ensures) (omega (arith, c.in-Quoted.known_told-in-Quoted-1-own.given)))

pub returns-in-Empty : goal.returns-in-Empty
unfolding raw_bytes
returns-in-Empty c = (rw (c.in-Empty.is) refl, zero-le)
