-- The numbers of the refusals: what is to be shown of each of them stands here, so that a new one is met here alone.
-- Assumes nothing.
use mathlib.Core.Path.{◌≡◌, refl, sym, ◌∙◌, ap}
use mathlib.Core.List.{List, [], ◌∷◌}
use Prim.Native.Nat.{ℕ, ◌≤◌}
use native.Mathlib.Omega.{arith}
use lib.ListN.{get_or}
use Rattle.base_refusals.specs.declared.Refusal.{Refusal}
use Rattle.base_refusals.specs.declared.Refusal.TheVariants.{TextTooLong, NotUtf8, NothingThere, NoClose, NoReading, TooManyClasses, TooManyKeys, JoinFull, CanonTooLong, NotWellFormed, EmptySet, BadTag, NotAnIndex, TableFull, AnotherVersion, TotalTooLarge, TooManyColumns, IndexTooLong, BadSetting, SharedValve}
use Rattle.base_refusals.specs.Numbers.{last_number, number_of}

-- each where its number says; none has the number 0 or 8
abbrev refusals : List Refusal
refusals =
    TextTooLong ∷ TextTooLong ∷ NotUtf8 ∷ NothingThere ∷ NoClose ∷ NoReading ∷ TooManyClasses ∷ TooManyKeys ∷ TextTooLong
    ∷ JoinFull ∷ CanonTooLong ∷ NotWellFormed ∷ EmptySet
    ∷ BadTag ∷ NotAnIndex ∷ TableFull ∷ AnotherVersion ∷ TotalTooLarge ∷ TooManyColumns ∷ IndexTooLong ∷ BadSetting ∷ SharedValve ∷ []

there : (r : Refusal) → get_or refusals (number_of r) TextTooLong ≡ r
unfolding number_of
there TextTooLong = refl
there NotUtf8 = refl
there NothingThere = refl
there NoClose = refl
there NoReading = refl
there TooManyClasses = refl
there TooManyKeys = refl
there JoinFull = refl
there CanonTooLong = refl
there NotWellFormed = refl
there EmptySet = refl
there BadTag = refl
there NotAnIndex = refl
there TableFull = refl
there AnotherVersion = refl
there TotalTooLarge = refl
there TooManyColumns = refl
there IndexTooLong = refl
there BadSetting = refl
there SharedValve = refl

-- so no two have the same
pub number_own : (q r : Refusal) → number_of q ≡ number_of r → q ≡ r
number_own q r e = sym (there q) ∙ ap (λ n. get_or refusals n TextTooLong) e ∙ there r

-- "8 stays unused."
pub eight_unused : (r : Refusal) → number_of r ≡ 8 → ⊥
unfolding number_of
eight_unused r e = let z : r ≡ TextTooLong = sym (there r) ∙ ap (λ n. get_or refusals n TextTooLong) e in omega (arith, e, ap number_of z)

-- and each is in the table
pub number_among : (r : Refusal) → (1 ≤ number_of r) × (number_of r ≤ last_number)
unfolding number_of
number_among TextTooLong = (omega arith, omega arith)
number_among NotUtf8 = (omega arith, omega arith)
number_among NothingThere = (omega arith, omega arith)
number_among NoClose = (omega arith, omega arith)
number_among NoReading = (omega arith, omega arith)
number_among TooManyClasses = (omega arith, omega arith)
number_among TooManyKeys = (omega arith, omega arith)
number_among JoinFull = (omega arith, omega arith)
number_among CanonTooLong = (omega arith, omega arith)
number_among NotWellFormed = (omega arith, omega arith)
number_among EmptySet = (omega arith, omega arith)
number_among BadTag = (omega arith, omega arith)
number_among NotAnIndex = (omega arith, omega arith)
number_among TableFull = (omega arith, omega arith)
number_among AnotherVersion = (omega arith, omega arith)
number_among TotalTooLarge = (omega arith, omega arith)
number_among TooManyColumns = (omega arith, omega arith)
number_among IndexTooLong = (omega arith, omega arith)
number_among BadSetting = (omega arith, omega arith)
number_among SharedValve = (omega arith, omega arith)

-- two digits are enough
pub number_le : (r : Refusal) → number_of r ≤ 99
number_le r = omega (arith, (number_among r).1)
