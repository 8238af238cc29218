-- A lent set after a merge: it stands as it was where the merge is refused, and else holds the merged set.
-- Assumes nothing.
use Rattle.std.specs.Prelude.{Err, Ok, Result, true, false}
use mathlib.Core.Path.{◌≡◌, ◌∙◌, ap}
use Rattle.base_refusals.specs.Numbers.{outcome_no}
use Rattle.base_refusals.specs.Orders.{order_no}
use Rattle.base_refusals.specs.declared.Refusal.{Refusal}
use Rattle.set_table.specs.Types.{Texts}
use Rattle.set_table.specs.declared.Attrs.{Attrs}
use Rattle.set_table.specs.declared.Filled.{Filled}
use Rattle.set_loose.specs.declared.Consumed.{Consumed}
use Rattle.set_merge.specs.Merge.{merge_of, merge_order}
use Rattle.set_lent.specs.Lent.{end_of, loose_end, lent_both}

module _ (was : Attrs) (f : Filled) where
  pub refused_stands : {r : Refusal} → f.outcome ≡ Err r → was ≡ end_of was f
  unfolding end_of
  refused_stands e = rw e

  pub done_goes : f.outcome ≡ Ok tt → f.set ≡ end_of was f
  unfolding end_of
  done_goes e = rw e

-- where nothing is taken out the set stands as it was too
module _ (was : Attrs) (c : Consumed) where
  pub loose_refused : {r : Refusal} → c.did ≡ Err r → was ≡ loose_end was c
  unfolding loose_end
  loose_refused e = rw e

  pub loose_yes : c.did ≡ Ok true → c.set ≡ loose_end was c
  unfolding loose_end
  loose_yes e = rw e

  pub loose_no : c.did ≡ Ok false → was ≡ loose_end was c
  unfolding loose_end
  loose_no e = rw e

-- one lent set, merged into twice: y stands there between the two, and z behind them
module _ (t : Texts) (a leading incoming : Attrs) {led merged : Result (Unit {0}) Refusal} {y z : Attrs}
    (e : (led ≡ (merge_of t leading a).outcome) × (y ≡ end_of a (merge_of t leading a)) × (outcome_no led ≡ order_no (merge_order t leading a)))
    (f : (merged ≡ (merge_of t y incoming).outcome) × (z ≡ end_of y (merge_of t y incoming)) × (outcome_no merged ≡ order_no (merge_order t y incoming))) where
  both_is : record { led = led; merged = merged; set = z } ≡ lent_both t a leading incoming
  unfolding lent_both
  both_is =
      λ i. record {
        led = e.0 i;
        merged = (f.0 ∙ ap (λ (x : Attrs). (merge_of t x incoming).outcome) e.1) i;
        set = (f.1 ∙ ap (λ (x : Attrs). end_of x (merge_of t x incoming)) e.1) i;
      }

  pub both_said : (record { led = led; merged = merged; set = z } ≡ lent_both t a leading incoming) × (outcome_no led ≡ order_no (merge_order t leading a)) × (outcome_no merged ≡ order_no (merge_order t (end_of a (merge_of t leading a)) incoming))
  both_said = (both_is, e.2, f.2 ∙ ap (λ (x : Attrs). order_no (merge_order t x incoming)) e.1)
