-- Reading and measuring agree, whatever was found.
-- Assumes nothing.
use Rattle.std.specs.Prelude.{Err}
use mathlib.Core.Path.{◌≡◌, refl}
use mathlib.Core.List.{List}
use Prim.Native.Nat.{ℕ}
use native.Mathlib.Omega.{arith}
use Rattle.base_refusals.specs.declared.Refusal.{Refusal}
use Rattle.read_blocks.specs.Blocks.{Found, lines_of, block_of}
use Rattle.proved_reading.specs.Measuring.{MeasuresWhatIsRead, RefusedAlike}
use Rattle.read_lengths.specs.Lengths.{length_of, lines_in, measured}

module _ (t : List ℕ) (at : ℕ) (f : Found) where
  pub agree : MeasuresWhatIsRead t at f
  unfolding measured block_of
  agree = (go f, (refl, (refl, refl)))
    where
      go : (f : Found) → lines_of f ≡ lines_in (length_of f)
      go Found.line = refl
      go (Found.run r) = refl
      go (Found.none q x n) = refl

  pub refused_alike : {q : Refusal} → RefusedAlike t at f q
  unfolding measured block_of
  refused_alike e = go f e
    where
      go : (f : Found) {q : Refusal} → length_of f ≡ Err q → (block_of t at f).outcome ≡ Err q
      go Found.line e = let z : ◌≡◌ {A = ℕ} 0 1 = cc in absurd (omega arith)
      go (Found.run r) e = let z : ◌≡◌ {A = ℕ} 0 1 = cc in absurd (omega arith)
      go (Found.none p x n) {q} e = let z : p ≡ q = cc in rw z
