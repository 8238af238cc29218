-- The digits of a value byte by byte.
-- Assumes nothing.
use mathlib.Core.Path.{◌≡◌, refl}
use mathlib.Core.Bool.{Bool}
use mathlib.Core.List.{List}
use Prim.Native.Nat.{ℕ, ◌≤◌}
use native.Mathlib.Omega.{arith}
use lib.ListN.{length, drop}
use Rattle.set_marks.specs.Marks.{bytes_in}
use Rattle.set_marks.proofs.Values.{Stands, Ends}
use Rattle.text_digits.specs.Digits.{digits_step, digits_from, digits_of}
use Rattle.text_digits.specs.declared.Digits.{Digits}
use Rattle.text_digits.specs.declared.Digits.TheVariants.{NoDigit}
use Rattle.text_digits.proofs.Steps.{from_cons}

-- ---- the loop: the bytes before i are read

pub record Reading (most : ℕ) (q : Bool) (s : List ℕ) (d : Digits) (i : ℕ) : Type 0 where
  pub within : i ≤ length s
  pub rest : digits_from most d (bytes_in q (drop i s)) ≡ digits_of most (bytes_in q s)

pub reading_start : (most : ℕ) (q : Bool) (s : List ℕ) → Reading most q s NoDigit 0
unfolding digits_of
reading_start most q s = record { within = omega arith; rest = refl }

module _ {most : ℕ} {q : Bool} {s : List ℕ} {d : Digits} {i : ℕ} (inv : Reading most q s d i) where
  pub reading_go : {b next : ℕ} → Stands q s i b next → Reading most q s (digits_step most d b) next
  reading_go p = record { within = p.within; rest = rw (p.bytes, from_cons) at inv.rest }

  pub reading_end : Ends q s i → d ≡ digits_of most (bytes_in q s)
  unfolding digits_from
  reading_end e = rw e.bytes at inv.rest
