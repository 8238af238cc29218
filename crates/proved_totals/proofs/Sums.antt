-- How reports add up.
-- Assumes nothing.
use Rattle.std.specs.Prelude.{Ok}
use mathlib.Core.Path.{◌≡◌, refl, sym, ◌∙◌, ap}
use mathlib.Core.Bool.{Bool, true, false}
use mathlib.Core.List.{List}
use Prim.Native.Nat.{ℕ}
use Rattle.sheet_totals.specs.Totals.{numbers_added, overflows, add_totals, IsReport}
use Rattle.sheet_totals.specs.declared.Added.{Added}
use Rattle.sheet_totals.proofs.Sums.{added_comm, added_long, add_fits, add_full, fits_is, add_assoc, add_empty_right, full_too_large, too_large_full}
use Rattle.proved_totals.specs.Sums.{TooLargeExactly, AddedIsReport, AddedEitherWay, AddedInGroups, EmptyAddsNone}

pub too_large_exactly : TooLargeExactly
too_large_exactly a b ra rb = (full_too_large a b ra rb, too_large_full a b ra rb)

pub added_is_report : AddedIsReport
added_is_report a b ra rb n = go (overflows (numbers_added a.numbers b.numbers)) refl
  where
    go : (x : Bool) → overflows (numbers_added a.numbers b.numbers) ≡ x → ((add_totals a b).outcome ≡ Ok tt) × IsReport (add_totals a b).totals.numbers
    go true e = absurd (n (full_too_large a b ra rb (ap (λ (r : Added). r.outcome) (add_full a b e))))
    go false e =
        let f = add_fits a b e in
        (ap (λ (r : Added). r.outcome) f, rw f (record { long = added_long a.numbers b.numbers ra.long rb.long; fits = e }))

pub added_either_way : AddedEitherWay
added_either_way a b p =
    let c = added_comm b.numbers a.numbers in
    let e = fits_is a b p in
    add_fits b a (ap overflows c ∙ e) ∙ (ap (λ (l : List ℕ). record { outcome = Ok tt; totals = record { numbers = l } }) c ∙ sym (add_fits a b e))

pub added_in_groups : AddedInGroups
added_in_groups a b c ra rb rc = add_assoc a b c ra.long rb.long rc.long

pub empty_adds_none : EmptyAddsNone
empty_adds_none a r = add_empty_right a r
