-- "At the end no variant may have one valve at two wheels.": the pair as one that exists, and that the code finds the first.
use Rattle.std.specs.Prelude.{◌≡◌, ℕ, ◌≤◌, ◌<◌, Some}
use Rattle.sheet_valves.specs.Tables.{variant_count, wheels, valve_at}
use Rattle.sheet_valves.specs.Pairs.{first_pair}
use Rattle.sheet_valves.specs.declared.Table.{Table}

-- two different wheels of the variant v have one valve; "unfilled cells don't count"
pub record TwoWheels (t : Table) (v : ℕ) : Type 0 where
  pub one : ℕ
  pub two : ℕ
  pub valve : ℕ
  pub one_wheel : one < wheels
  pub two_wheel : two < wheels
  pub different : one ≡ two → ⊥
  pub at_one : valve_at t v one ≡ Some valve
  pub at_two : valve_at t v two ≡ Some valve

-- the first variant with such a pair, 0 where none has one
pub data FirstIs (t : Table) : ℕ → Type 0 where
  none : ((v : ℕ) → 1 ≤ v → v ≤ variant_count → TwoWheels t v → ⊥) → FirstIs t 0
  at : {v : ℕ} → 1 ≤ v → v ≤ variant_count → TwoWheels t v → ((u : ℕ) → 1 ≤ u → u < v → TwoWheels t u → ⊥) → FirstIs t v

-- there is such a pair
abbrev pub PairIn : Table → Type 0
PairIn t = (v : ℕ) × ((1 ≤ v) × ((v ≤ variant_count) × TwoWheels t v))

-- the first variant is found, and no other number is that
abbrev pub FirstFound : Type 0
FirstFound = (t : Table) (r : ℕ) → (r ≡ first_pair t → FirstIs t r) × (FirstIs t r → r ≡ first_pair t)

-- so 0 exactly where there is no pair
abbrev pub PairFoundExactly : Type 0
PairFoundExactly = (t : Table) → (PairIn t → first_pair t ≡ 0 → ⊥) × ((first_pair t ≡ 0 → ⊥) → PairIn t)
