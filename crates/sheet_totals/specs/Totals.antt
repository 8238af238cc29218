-- "Numbers over all sheets": thirteen numbers of 64 bits, and how reports add up.
use Rattle.std.specs.Prelude.{◌≡◌, ℕ, suc, ◌+◌, ◌<◌, Bool, false, cond, ◌||◌, List, [], ◌∷◌, eqb, ltb, length, get_or, replicate, Err, Ok, Result}
use Rattle.base_refusals.specs.Numbers.{Paper, refused_paper, passed_paper}
use Rattle.base_refusals.specs.Orders.{Ground}
use Rattle.base_refusals.specs.declared.Refusal.TheVariants.{TotalTooLarge}
use Rattle.sheet_totals.specs.declared.Totals.{Totals}
use Rattle.sheet_totals.specs.declared.Added.{Added}
use Rattle.base_refusals.specs.declared.Refusal.{Refusal}

-- "in this order: `sheets` .. `blocks` .. `longest`"
abbrev pub total_places : ℕ
total_places = 13

-- "`longest` printed block in lines" stands last
abbrev pub longest_place : ℕ
longest_place = 12

-- "Totals are 64-bit."
abbrev pub max_total : ℕ
max_total = 18446744073709551615

-- the report over no sheet
abbrev pub empty_totals : Totals
empty_totals = record { numbers = replicate total_places 0 }

unfoldable pub larger : ℕ → ℕ → ℕ
larger x y = cond (ltb x y) y x

-- "reports over two lists add up to the report over both, the longest by the larger": the number at place i
unfoldable pub added_at : ℕ → ℕ → ℕ → ℕ
added_at i x y = cond (eqb i longest_place) (larger x y) (x + y)

-- the numbers from place i on
unfoldable pub added_from : ℕ → List ℕ → List ℕ → List ℕ
added_from i [] ys = []
added_from i (x ∷ xs) [] = []
added_from i (x ∷ xs) (y ∷ ys) = added_at i x y ∷ added_from (suc i) xs ys

unfoldable pub numbers_added : List ℕ → List ℕ → List ℕ
numbers_added xs ys = added_from 0 xs ys

-- "17 a total would not fit"
unfoldable pub overflows : List ℕ → Bool
overflows [] = false
overflows (x ∷ xs) = ltb max_total x || overflows xs

-- "the report then stays as before"
abbrev pub added_by : Bool → Totals → List ℕ → Added
added_by full a s = cond full (record { outcome = Err TotalTooLarge; totals = a }) (record { outcome = Ok tt; totals = record { numbers = s } })

unfoldable pub add_totals : Totals → Totals → Added
add_totals a b = added_by (overflows (numbers_added a.numbers b.numbers)) a (numbers_added a.numbers b.numbers)

-- ---- on paper: 17, else the thirteen numbers

abbrev pub totals_paper : Totals → Result (Unit {0}) Refusal → Paper
totals_paper t (Err r) = refused_paper r
totals_paper t (Ok _) = passed_paper t.numbers

abbrev pub added_paper : Added → Paper
added_paper r = totals_paper r.totals r.outcome

unfoldable pub add_order : Totals → Totals → List Ground
add_order a b = Ground.given TotalTooLarge (overflows (numbers_added a.numbers b.numbers)) ∷ []

-- ---- what the theorems about reports speak of

-- a report's numbers: thirteen of 64 bits
pub record IsReport (xs : List ℕ) : Type 0 where
  pub long : length xs ≡ total_places
  pub fits : overflows xs ≡ false

-- "17 a total would not fit": one of the twelve sums is above the size
pub record TooLarge (xs ys : List ℕ) : Type 0 where
  pub place : ℕ
  pub summed : place < longest_place
  pub above : max_total < get_or xs place 0 + get_or ys place 0
