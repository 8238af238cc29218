-- "Each number equals a definition over the list of sheets, and reports over two lists add up to the report over both, the longest by the larger." The definitions
-- are `numbers_of` (sheet_tally/specs/Counts).
use Rattle.std.specs.Prelude.{◌≡◌, true, false, List, [], ◌∷◌, ◌++◌, ℕ, ◌≤◌, Err, Ok, Result}
use Rattle.base_refusals.specs.Numbers.{max_text}
use Rattle.base_refusals.specs.declared.Refusal.TheVariants.{TotalTooLarge}
use Rattle.sheet_totals.specs.Totals.{numbers_added, overflows, empty_totals, add_totals, IsReport, TooLarge}
use Rattle.sheet_totals.specs.declared.Totals.{Totals}
use Rattle.sheet_totals.specs.declared.Added.{Added}
use Rattle.sheet_tally.specs.Counts.{numbers_of, totals_of}
use Rattle.sheet_tally.specs.Feeds.{lacks_join, feed_of}
use Rattle.base_refusals.specs.declared.Refusal.{Refusal}

-- ---- two lists

-- "reports over two lists add up to the report over both, the longest by the larger"
abbrev pub ListsAddUp : Type 0
ListsAddUp = (xs ys : List (List ℕ)) → numbers_of (xs ++ ys) ≡ numbers_added (numbers_of xs) (numbers_of ys)

-- so does `add_totals` add them, refused exactly where a number over both would not fit
abbrev pub ReportsAddUp : Type 0
ReportsAddUp = (xs ys : List (List ℕ))
    → (overflows (numbers_of (xs ++ ys)) ≡ false → add_totals (totals_of xs) (totals_of ys) ≡ record { outcome = Ok tt; totals = totals_of (xs ++ ys) })
    × (overflows (numbers_of (xs ++ ys)) ≡ true → add_totals (totals_of xs) (totals_of ys) ≡ record { outcome = Err TotalTooLarge; totals = totals_of xs })

-- ---- "fed one after the other"

-- a refusal stands, else it goes on
abbrev pub on_passed : Result (Unit {0}) Refusal → Added → (Totals → Added) → Added
on_passed (Err w) r rest = r
on_passed (Ok _) r rest = rest r.totals

-- sheets fed to the report a, with a join buffer of `cap` bytes
unfoldable pub fed_from : Totals → ℕ → List (List ℕ) → Added
fed_from a cap [] = record { outcome = Ok tt; totals = a }
fed_from a cap (t ∷ ts) = on_passed (feed_of a t cap).outcome (feed_of a t cap) (λ b. fed_from b cap ts)

-- none refused, from the empty report on: exactly the definitions over the list
abbrev pub FedGivesAll : Type 0
FedGivesAll = (ts : List (List ℕ)) (cap : ℕ) → (fed_from empty_totals cap ts).outcome ≡ Ok tt → (fed_from empty_totals cap ts).totals ≡ totals_of ts

-- and none is refused exactly where these fit, if the join buffer is long enough
abbrev pub FedFitsExactly : Type 0
FedFitsExactly = (ts : List (List ℕ)) (cap : ℕ) → max_text ≤ cap
    → (overflows (numbers_of ts) ≡ false → (fed_from empty_totals cap ts).outcome ≡ Ok tt) × ((fed_from empty_totals cap ts).outcome ≡ Ok tt → overflows (numbers_of ts) ≡ false)

-- ---- one sheet

-- "17 a total would not fit; the report then stays as before that sheet": exactly where one of the twelve sums is above 2^64 - 1, 9 coming before it
abbrev pub FedTooLargeExactly : Type 0
FedTooLargeExactly = (a : Totals) (t : List ℕ) (cap : ℕ) → IsReport a.numbers
    → ((feed_of a t cap).outcome ≡ Err TotalTooLarge → (lacks_join t cap ≡ false) × TooLarge a.numbers (numbers_of (t ∷ [])))
    × (lacks_join t cap ≡ false → TooLarge a.numbers (numbers_of (t ∷ [])) → feed_of a t cap ≡ record { outcome = Err TotalTooLarge; totals = a })
