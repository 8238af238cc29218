-- Checks one behind the other, and what is left where one refuses.
use Rattle.std.specs.Prelude.{ℕ, Bool, true, false, List, Err, Ok, Result}
use Rattle.base_refusals.specs.declared.Refusal.{Refusal}

-- a check that refuses for r where a thing isn't so
abbrev pub unless : Refusal → Bool → Result (Unit {0}) Refusal
unless r true = Ok tt
unless r false = Err r

abbrev pub or_else : Result (Unit {0}) Refusal → Result (Unit {0}) Refusal → Result (Unit {0}) Refusal
or_else (Err r) next = Err r
or_else (Ok _) next = next

-- "A refusal touches no other lent memory"
abbrev pub or_left : Result (Unit {0}) Refusal → List ℕ → List ℕ → List ℕ
or_left (Err r) buf written = buf
or_left (Ok _) buf written = written
