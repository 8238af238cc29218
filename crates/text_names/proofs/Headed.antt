-- Names, with how far bytes can be continued to one: one law for the three kinds.
-- Assumes nothing.
use Rattle.std.specs.Prelude.{Err, Result}
use mathlib.Core.Path.{◌≡◌, refl, ◌∙◌}
use mathlib.Core.Bool.{Bool}
use mathlib.Core.List.{List, [], ◌∷◌}
use Prim.Native.Nat.{ℕ, ◌+◌}
use native.Mathlib.Nat.{zero-add}
use native.Mathlib.Omega.{arith}
use lib.Dec.{eqb}
use lib.ListN.{length}
use Rattle.base_lists.specs.Lists.{headed}
use Rattle.base_letters.specs.Classes.{front_run}
use Rattle.base_letters.proofs.Fronts as fronts
use Rattle.text_names.specs.Tested.{tested}

module _ (f g : ℕ → Bool) where
  -- no name is empty
  pub none : (s : List ℕ) → length s ≡ 0 → Err 0 ≡ tested (headed f g s) (front_run f g s)
  unfolding headed
  none [] h = refl
  none (a ∷ s) h = absurd (omega arith)

  pub some : (s : List ℕ) {e : ℕ} {r : Result (Unit {0}) ℕ} → e ≡ 0 + front_run f g s → (length s ≡ 0 → ⊥) → r ≡ tested (eqb e (length s)) e → r ≡ tested (headed f g s) (front_run f g s)
  some s {e} is n q = q ∙ (rw (fronts.whole f g s is n, is, zero-add))
