use mathlib.Core.Path.{◌≡◌, refl, sym, ◌∙◌}
use mathlib.Core.Bool.{Bool, true, false}
use mathlib.Core.List.{List}
use Prim.Native.Nat.{ℕ, ◌-◌}
use borrow.Author.Tests.{eq-eqb}
use lib.Dec.{eqb}
use lib.ListN.{length}
use Rattle.std.proofs.Common.{Bor, Option, Some, None}
use Rattle.std.specs.List.{slice_get}
use Rattle.std.specs.Option.{option_copied, option_eq}
use Rattle.base_lists.specs.Lists.{same}
use Rattle.base_lists.proofs.Same.{same_true, same_length}
use Rattle.base_lists.proofs.More.{contra}
use Rattle.set_table.proofs.same_by_last.Goals as goal
use Rattle.set_table.proofs.same_by_last.Goals.{then-a-b, else-a-b}

alike : (o p : Option (Bor ℕ)) → option_copied o ≡ option_copied p → option_eq (λ x y. eqb x.now y.now) o p ≡ true
alike None None e = refl
alike None (Some y) e = cc
alike (Some x) None e = cc
alike (Some x) (Some y) e = eq-eqb x.now y.now cc

-- bytes whose last differ are not the same
apart : (a b : List ℕ) (o p : Option (Bor ℕ)) → option_copied o ≡ slice_get a (length a - 1) → option_copied p ≡ slice_get b (length b - 1) → option_eq (λ x y. eqb x.now y.now) o p ≡ false → false ≡ same a b
apart a b o p x y e = go (same a b) refl
  where
    go : (r : Bool) → same a b ≡ r → false ≡ r
    go true q = contra (option_eq (λ x y. eqb x.now y.now) o p) (alike o p ((rw (same_true a b q) at x) ∙ sym y)) e
    go false q = refl

pub returns-else-eq : goal.returns-else-eq
returns-else-eq c =
    c.if-eq.false
    ∙ elim c.if-a-b.branch [ then-a-b w ↦ apart _ _ _ _ w.last.ensures.value w.last-then-a-b.ensures.value (sym w.eq.ensures ∙ (sym w.value-is ∙ c.if-eq.false)) | else-a-b w ↦ same_length _ _ w.if-a-b.false ]
