-- A walk with a state from which every way on leads somewhere passes exactly the longest prefix that can be continued.
-- Assumes nothing.
use mathlib.Core.Path.{◌≡◌, refl}
use mathlib.Core.Bool.{Bool, true, false}
use mathlib.Core.List.{List, [], ◌∷◌, ◌++◌}
use Prim.Native.Nat.{ℕ, zero, suc, ◌≤◌, zero-le}
use native.Mathlib.Omega.{arith}
use lib.ListN.{length, take}
use Rattle.base_lists.proofs.More.{contra}
use Rattle.text_names.specs.Longest.{CanGoOn, Longest}
use Rattle.block_places.specs.Computed.{Spot, Turn, turn_of, onward, walk_takes, walk_passes}

-- what can be continued from a spot
abbrev pub From : (ℕ → Bool) → Spot → List ℕ → Type 0
From parts st s = walk_takes parts st s ≡ true

module _ (parts : ℕ → Bool) (alive : (st : Spot) → CanGoOn (From parts st) []) where
  pub walk_within : (st : Spot) (s : List ℕ) → walk_passes parts st s ≤ length s
  unfolding walk_passes
  walk_within st [] = zero-le
  walk_within st (b ∷ s) = go (turn_of parts st b) (λ v. walk_within v s)
    where
      go : (t : Turn) → ((v : Spot) → walk_passes parts v s ≤ length s) → onward 0 (λ v. suc (walk_passes parts v s)) t ≤ suc (length s)
      go Turn.stop ih = zero-le
      go (Turn.go v) ih = omega (arith, ih v)

  pub walk_goes : (st : Spot) (s : List ℕ) → CanGoOn (From parts st) (take (walk_passes parts st s) s)
  unfolding walk_passes walk_takes
  walk_goes st [] = alive st
  walk_goes st (b ∷ s) = go (turn_of parts st b) refl (λ v. walk_goes v s)
    where
      go : (t : Turn) → turn_of parts st b ≡ t → ((v : Spot) → CanGoOn (From parts v) (take (walk_passes parts v s) s)) → CanGoOn (From parts st) (take (onward 0 (λ v. suc (walk_passes parts v s)) t) (b ∷ s))
      go Turn.stop e ih = alive st
      go (Turn.go v) e ih = record { rest = (ih v).rest; good = rw e (ih v).good }

  pub walk_longest : (st : Spot) (s : List ℕ) (k : ℕ) → k ≤ length s → CanGoOn (From parts st) (take k s) → k ≤ walk_passes parts st s
  unfolding walk_passes walk_takes
  walk_longest st s zero h g = zero-le
  walk_longest st [] (suc k) h g = absurd (omega arith)
  walk_longest st (b ∷ s) (suc k) h g = go (turn_of parts st b) refl g.rest g.good (λ v. walk_longest v s k (omega arith))
    where
      go : (t : Turn) → turn_of parts st b ≡ t → (r : List ℕ) → onward false (λ v. walk_takes parts v (take k s ++ r)) (turn_of parts st b) ≡ true → ((v : Spot) → CanGoOn (From parts v) (take k s) → k ≤ walk_passes parts v s) → suc k ≤ onward 0 (λ v. suc (walk_passes parts v s)) t
      go Turn.stop e r a ih = contra false (rw e at a) refl
      go (Turn.go v) e r a ih = omega (arith, ih v (record { rest = r; good = rw e at a }))

  pub walk : (st : Spot) (s : List ℕ) → Longest (From parts st) s (walk_passes parts st s)
  walk st s = record { within = walk_within st s; goes = walk_goes st s; longest = walk_longest st s }
