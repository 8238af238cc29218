-- The numbers of `check_text` and `check_both`: 1 for a text above 65,535 bytes, then 2 for one that isn't UTF-8, then those of a second text.
-- Assumes nothing.
use Rattle.std.specs.Prelude.{Err, Ok}
use mathlib.Core.Path.{◌≡◌, refl}
use mathlib.Core.List.{List, []}
use Prim.Native.Nat.{ℕ}
use Rattle.base_refusals.specs.Numbers.{outcome_no}
use Rattle.base_refusals.specs.Orders.{order_no}
use Rattle.base_refusals.proofs.Orders.{order_by, order_no_lem}
use Rattle.text_checks.specs.Check.{text_order, both_order, check_of, both_of}
use Rattle.text_checks.specs.Outcomes.{or_else}

pub check_no : (t : List ℕ) → outcome_no (check_of t) ≡ order_no (text_order t)
unfolding check_of order_no
check_no t = order_no_lem outcome_no Err (λ r. refl) (text_order t) [] refl

module _ (t u : List ℕ) where
  pub both_no : outcome_no (both_of t u) ≡ order_no (both_order t u)
  unfolding both_of order_no
  both_no = order_no_lem outcome_no Err (λ r. refl) (both_order t u) [] refl

  -- the one check behind the other
  pub both_is : or_else (check_of t) (check_of u) ≡ both_of t u
  unfolding both_of check_of
  both_is = order_by (λ o. or_else o (check_of u)) Err Err (Ok tt) (λ r. refl) (text_order t) (text_order u) (λ p. refl)
