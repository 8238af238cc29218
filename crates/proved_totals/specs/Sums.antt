-- How reports add up, of any thirteen numbers: "17 a total would not fit", and that neither order nor grouping matters.
use Rattle.std.specs.Prelude.{◌≡◌, Err, Ok}
use Rattle.base_refusals.specs.declared.Refusal.TheVariants.{TotalTooLarge}
use Rattle.sheet_totals.specs.Totals.{empty_totals, add_totals, IsReport, TooLarge}
use Rattle.sheet_totals.specs.declared.Totals.{Totals}

-- "17 a total would not fit; the report then stays as before": exactly where one of the twelve sums is above 2^64 - 1, so never for `longest`
abbrev pub TooLargeExactly : Type 0
TooLargeExactly = (a b : Totals) → IsReport a.numbers → IsReport b.numbers
    → ((add_totals a b).outcome ≡ Err TotalTooLarge → TooLarge a.numbers b.numbers)
    × (TooLarge a.numbers b.numbers → add_totals a b ≡ record { outcome = Err TotalTooLarge; totals = a })

-- nothing else is refused, and what is added up is a report again
abbrev pub AddedIsReport : Type 0
AddedIsReport = (a b : Totals) → IsReport a.numbers → IsReport b.numbers → (TooLarge a.numbers b.numbers → ⊥) → ((add_totals a b).outcome ≡ Ok tt) × IsReport (add_totals a b).totals.numbers

-- the order doesn't matter
abbrev pub AddedEitherWay : Type 0
AddedEitherWay = (a b : Totals) → (add_totals a b).outcome ≡ Ok tt → add_totals b a ≡ add_totals a b

-- nor does the grouping: where one isn't refused, the other isn't, and they are one report
abbrev pub AddedInGroups : Type 0
AddedInGroups = (a b c : Totals) → IsReport a.numbers → IsReport b.numbers → IsReport c.numbers
    → (add_totals a b).outcome ≡ Ok tt → (add_totals (add_totals a b).totals c).outcome ≡ Ok tt
    → ((add_totals b c).outcome ≡ Ok tt) × (add_totals a (add_totals b c).totals ≡ add_totals (add_totals a b).totals c)

-- the report over no sheet adds nothing
abbrev pub EmptyAddsNone : Type 0
EmptyAddsNone = (a : Totals) → IsReport a.numbers → add_totals a empty_totals ≡ record { outcome = Ok tt; totals = a }
