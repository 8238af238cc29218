-- What the code's own functions promise of a block that isn't read. No definition of a public promise rests on these.
use Rattle.std.specs.Prelude.{Bool, false, eqb, Err, Ok, Result}
use Rattle.base_refusals.specs.Numbers.{number_of}
use Rattle.base_refusals.specs.declared.Refusal.TheVariants.{NoReading}
use Rattle.base_refusals.specs.declared.Refusal.{Refusal}

-- whether the grammar refuses: 5
abbrev pub is_unread : Result (Unit {0}) Refusal → Bool
is_unread (Ok _) = false
is_unread (Err r) = eqb (number_of r) (number_of NoReading)
