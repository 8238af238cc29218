-- The numbers of `merge_attrs`: 1 and 2 of the first text, 1 and 2 of the second, 11 of either set, then 6 and 7, else none. Those of
-- `merge_leading_attrs` are the same with the sets in the other order.
-- Assumes nothing.
use Rattle.std.specs.Prelude.{Err}
use mathlib.Core.Path.{◌≡◌, refl}
use mathlib.Core.Bool.{◌&&◌}
use mathlib.Core.List.{[], ◌∷◌}
use Rattle.base_refusals.specs.Numbers.{outcome_no}
use Rattle.base_refusals.specs.Orders.{Ground, in_order, order_no}
use Rattle.base_refusals.specs.declared.Refusal.TheVariants.{NotWellFormed}
use Rattle.base_refusals.proofs.Orders.{order_no_lem}
use Rattle.text_checks.specs.Check.{both_order, both_of}
use Rattle.set_table.specs.Types.{Texts}
use Rattle.set_table.specs.Rows.{Rows, with_puts, rows_in}
use Rattle.set_table.specs.declared.Attrs.{Attrs}
use Rattle.set_table.specs.Filled.{limit_order, limited}
use Rattle.set_table.proofs.Numbers.{behind_no, limited_no}
use Rattle.set_wellformed.specs.WellFormed.{table_ok}
use Rattle.set_merge.specs.Merge.{puts_by, merged_by, merge_of, merge_order}

pub merge_no : (t : Texts) (a b : Attrs) → outcome_no (merge_of t a b).outcome ≡ order_no (merge_order t a b)
unfolding merge_of both_of in_order
merge_no t a b =
    order_no_lem (λ o. outcome_no (merged_by o t a b).outcome) Err (λ r. refl) (both_order t.first t.second) _
    (behind_no (Ground.lacking NotWellFormed (table_ok t a && table_ok t b) ∷ []) (limit_order s) (limited s) (limited_no s))
  where
    s : Rows
    s = with_puts t (rows_in a) (puts_by (rows_in b))
