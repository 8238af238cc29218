-- Reports over two lists of sheets add up to the report over both; and sheets fed one after the other give the report over all.
-- Assumes nothing.
use Rattle.std.specs.Prelude.{Err, Ok, Result}
use mathlib.Core.Path.{◌≡◌, refl, sym, ◌∙◌, ap}
use mathlib.Core.Bool.{Bool, true, false, ◌&&◌}
use mathlib.Core.List.{List, [], ◌∷◌}
use Prim.Native.Nat.{ℕ, ◌≤◌}
use borrow.Author.Tests.{le-ltb}
use lib.Dec.{eqb, ltb}
use lib.ListN.{length, get_or, length-append}
use Rattle.base_lists.proofs.More.{contra}
use Rattle.base_refusals.specs.Numbers.{max_text, number_of, refused}
use Rattle.base_refusals.specs.declared.Refusal.{Refusal}
use Rattle.base_refusals.specs.declared.Refusal.TheVariants.{JoinFull, TotalTooLarge}
use Rattle.text_checks.specs.Check.{is_text}
use Rattle.sheet_totals.specs.Totals.{total_places, longest_place, max_total, added_at, added_from, numbers_added, overflows, empty_totals, add_totals, IsReport, TooLarge}
use Rattle.sheet_totals.specs.declared.Totals.{Totals}
use Rattle.sheet_totals.specs.declared.Added.{Added}
use Rattle.sheet_totals.proofs.Sums.{added_comm, added_assoc, added_empty, added_long, fits_without, add_fits, add_full, full_fits, full_is}
use Rattle.sheet_tally.specs.Lists.{total, greatest_of, keep}
use Rattle.sheet_tally.specs.Counts.{numbers_of, totals_of}
use Rattle.sheet_tally.specs.Feeds.{lacks_join, feed_of}
use Rattle.proved_totals.specs.Sheets.{ListsAddUp, ReportsAddUp, fed_from, FedGivesAll, FedFitsExactly, FedTooLargeExactly}
use Rattle.proved_totals.proofs.Longest.{longest_fits, under_at, one_too_large, too_large_over}
use Rattle.proved_totals.proofs.Lists.{total-append, greatest_append, kept_append}

-- ---- two lists

pub lists_add_up : ListsAddUp
unfolding numbers_of numbers_added added_from added_at
lists_add_up xs ys = simp (length-append, kept_append, greatest_append, total-append)

numbers_none : numbers_of [] ≡ empty_totals.numbers
unfolding numbers_of total greatest_of keep
numbers_none = refl

numbers_long : (ts : List (List ℕ)) → length (numbers_of ts) ≡ total_places
unfolding numbers_of
numbers_long ts = refl

abbrev whole : List ℕ → Added
whole l = record { outcome = Ok tt; totals = record { numbers = l } }

pub reports_add_up : ReportsAddUp
reports_add_up xs ys =
    let e = lists_add_up xs ys in (
      λ o. add_fits (totals_of xs) (totals_of ys) (ap overflows (sym e) ∙ o) ∙ ap whole (sym e),
      λ o. add_full (totals_of xs) (totals_of ys) (ap overflows (sym e) ∙ o),
    )

-- ---- fed one after the other

-- a sheet more, then the others: as all of them at once
more : (a : List ℕ) (t : List ℕ) (ts : List (List ℕ)) → numbers_added (numbers_added a (numbers_of (t ∷ []))) (numbers_of ts) ≡ numbers_added a (numbers_of (t ∷ ts))
more a t ts = added_assoc a (numbers_of (t ∷ [])) (numbers_of ts) ∙ ap (numbers_added a) (sym (lists_add_up (t ∷ []) ts))

-- one sheet: 9, else 17, else it is added
feed_lacks : (a : Totals) (t : List ℕ) (cap : ℕ) → lacks_join t cap ≡ true → feed_of a t cap ≡ record { outcome = Err JoinFull; totals = a }
unfolding feed_of
feed_lacks a t cap e = rw e

feed_adds : (a : Totals) (t : List ℕ) (cap : ℕ) → lacks_join t cap ≡ false → feed_of a t cap ≡ add_totals a (totals_of (t ∷ []))
unfolding feed_of
feed_adds a t cap e = rw e

module _ (a : Totals) (t : List ℕ) (cap : ℕ) (l : lacks_join t cap ≡ false) where
  feed_full : overflows (numbers_added a.numbers (numbers_of (t ∷ []))) ≡ true → feed_of a t cap ≡ record { outcome = Err TotalTooLarge; totals = a }
  feed_full e = feed_adds a t cap l ∙ add_full a (totals_of (t ∷ [])) e

  feed_fits : overflows (numbers_added a.numbers (numbers_of (t ∷ []))) ≡ false → feed_of a t cap ≡ whole (numbers_added a.numbers (numbers_of (t ∷ [])))
  feed_fits e = feed_adds a t cap l ∙ add_fits a (totals_of (t ∷ [])) e

-- a join buffer that is long enough isn't refused
long_enough : (t : List ℕ) (cap : ℕ) → max_text ≤ cap → lacks_join t cap ≡ false
long_enough t cap h = go (is_text t) (ltb cap max_text) (le-ltb cap max_text h)
  where
    go : (x y : Bool) → y ≡ false → (x && y) ≡ false
    go true y e = e
    go false y e = refl

-- the report over the sheets, and that it fits
record AllFed (a : Totals) (cap : ℕ) (ts : List (List ℕ)) : Type 0 where
  pub is : fed_from a cap ts ≡ whole (numbers_added a.numbers (numbers_of ts))
  pub fits : overflows (numbers_added a.numbers (numbers_of ts)) ≡ false

module _ (cap : ℕ) where
  -- one sheet goes on to the others
  fed_more : (a : Totals) (t : List ℕ) (ts : List (List ℕ)) → feed_of a t cap ≡ whole (numbers_added a.numbers (numbers_of (t ∷ [])))
      → fed_from a cap (t ∷ ts) ≡ fed_from (record { numbers = numbers_added a.numbers (numbers_of (t ∷ [])) }) cap ts
  unfolding fed_from
  fed_more a t ts e = rw e

  all_more : (a : Totals) (t : List ℕ) (ts : List (List ℕ)) → feed_of a t cap ≡ whole (numbers_added a.numbers (numbers_of (t ∷ [])))
      → AllFed (record { numbers = numbers_added a.numbers (numbers_of (t ∷ [])) }) cap ts → AllFed a cap (t ∷ ts)
  all_more a t ts e r =
      let m = more a.numbers t ts in
      record { is = fed_more a t ts e ∙ (r.is ∙ ap whole m); fits = ap overflows (sym m) ∙ r.fits }

  all_none : (a : Totals) → IsReport a.numbers → AllFed a cap []
  unfolding fed_from
  all_none a r = let e = ap (numbers_added a.numbers) numbers_none ∙ added_empty a.numbers r.long in record { is = ap whole (sym e); fits = ap overflows e ∙ r.fits }

  -- a sheet that is refused ends it
  not_on : (a : Totals) (t : List ℕ) (ts : List (List ℕ)) {w : Refusal} → feed_of a t cap ≡ record { outcome = Err w; totals = a } → (fed_from a cap (t ∷ ts)).outcome ≡ Ok tt → ⊥
  unfolding fed_from
  not_on a t ts e p = full_fits (rw e at p)

  report_on : (a : Totals) (t : List ℕ) → IsReport a.numbers → overflows (numbers_added a.numbers (numbers_of (t ∷ []))) ≡ false → IsReport (numbers_added a.numbers (numbers_of (t ∷ [])))
  report_on a t r e = record { long = added_long a.numbers (numbers_of (t ∷ [])) r.long (numbers_long (t ∷ [])); fits = e }

  -- where none is refused
  fed_is : (a : Totals) (ts : List (List ℕ)) → IsReport a.numbers → (fed_from a cap ts).outcome ≡ Ok tt → AllFed a cap ts
  fed_is a [] r p = all_none a r
  fed_is a (t ∷ ts) r p = go (lacks_join t cap) refl (overflows n) refl (fed_is (record { numbers = n }) ts)
    where
      n : List ℕ
      n = numbers_added a.numbers (numbers_of (t ∷ []))

      go : (x : Bool) → lacks_join t cap ≡ x → (y : Bool) → overflows n ≡ y → (IsReport n → (fed_from (record { numbers = n }) cap ts).outcome ≡ Ok tt → AllFed (record { numbers = n }) cap ts) → AllFed a cap (t ∷ ts)
      go true l y o ih = absurd (not_on a t ts (feed_lacks a t cap l) p)
      go false l true o ih = absurd (not_on a t ts (feed_full a t cap l o) p)
      go false l false o ih = let e = feed_fits a t cap l o in all_more a t ts e (ih (report_on a t r o) (ap (λ (r : Added). r.outcome) (sym (fed_more a t ts e)) ∙ p))

  -- where the numbers of all the sheets fit, none is refused
  fed_fits : max_text ≤ cap → (a : Totals) (ts : List (List ℕ)) → IsReport a.numbers → overflows (numbers_added a.numbers (numbers_of ts)) ≡ false → AllFed a cap ts
  fed_fits h a [] r o = all_none a r
  fed_fits h a (t ∷ ts) r o =
      let n : List ℕ = numbers_added a.numbers (numbers_of (t ∷ [])) in
      let g : overflows (numbers_added n (numbers_of ts)) ≡ false = ap overflows (more a.numbers t ts) ∙ o in
      let f : overflows n ≡ false = fits_without n (numbers_of ts) (added_long a.numbers (numbers_of (t ∷ [])) r.long (numbers_long (t ∷ []))) (numbers_long ts) g in
      all_more a t ts (feed_fits a t cap (long_enough t cap h) f) (fed_fits h (record { numbers = n }) ts (report_on a t r f) g)

  empty_report : IsReport empty_totals.numbers
  unfolding overflows
  empty_report = record { long = refl; fits = refl }

  from_empty : (ts : List (List ℕ)) → numbers_added empty_totals.numbers (numbers_of ts) ≡ numbers_of ts
  from_empty ts = added_comm empty_totals.numbers (numbers_of ts) ∙ added_empty (numbers_of ts) (numbers_long ts)

pub fed_gives_all : FedGivesAll
fed_gives_all ts cap p = ap (λ (r : Added). r.totals) ((fed_is cap empty_totals ts (empty_report cap) p).is ∙ ap whole (from_empty cap ts))

pub fed_fits_exactly : FedFitsExactly
fed_fits_exactly ts cap h =
    let e = ap overflows (from_empty cap ts) in (
      λ o. ap (λ (r : Added). r.outcome) (fed_fits cap h empty_totals ts (empty_report cap) (e ∙ o)).is,
      λ p. sym e ∙ (fed_is cap empty_totals ts (empty_report cap) p).fits,
    )

-- ---- one sheet

nine : Result (Unit {0}) Refusal → Bool
nine (Ok _) = false
nine (Err r) = eqb (number_of r) 9

nine_full : refused JoinFull ≡ Err TotalTooLarge → ⊥
unfolding nine number_of
nine_full e = contra true refl (ap nine e)

-- the last number of a sheet is its longest block
last_fits : (t : List ℕ) → get_or (numbers_of (t ∷ [])) longest_place 0 ≤ max_total
unfolding numbers_of
last_fits t = longest_fits t

module _ (a : Totals) (t : List ℕ) (cap : ℕ) (r : IsReport a.numbers) where
  too_large_is : (feed_of a t cap).outcome ≡ Err TotalTooLarge → (lacks_join t cap ≡ false) × TooLarge a.numbers (numbers_of (t ∷ []))
  too_large_is p = go (lacks_join t cap) refl
    where
      go : (x : Bool) → lacks_join t cap ≡ x → (x ≡ false) × TooLarge a.numbers (numbers_of (t ∷ []))
      go true l = absurd (nine_full (ap (λ (s : Added). s.outcome) (sym (feed_lacks a t cap l)) ∙ p))
      go false l = (
        refl,
        one_too_large a.numbers (numbers_of (t ∷ [])) r.long (numbers_long (t ∷ [])) (under_at a.numbers r.fits longest_place) (last_fits t)
            (full_is a (totals_of (t ∷ [])) (ap (λ (s : Added). s.outcome) (sym (feed_adds a t cap l)) ∙ p)),
      )

  is_too_large : lacks_join t cap ≡ false → TooLarge a.numbers (numbers_of (t ∷ [])) → feed_of a t cap ≡ record { outcome = Err TotalTooLarge; totals = a }
  is_too_large l z = feed_full a t cap l (too_large_over a.numbers (numbers_of (t ∷ [])) r.long (numbers_long (t ∷ [])) z)

pub fed_too_large_exactly : FedTooLargeExactly
fed_too_large_exactly a t cap r = (too_large_is a t cap r, is_too_large a t cap r)
