-- What the code that looks for a pair asks.
-- Assumes nothing.
use Rattle.std.specs.Prelude.{Option}
use mathlib.Core.Path.{◌≡◌, refl, ap}
use mathlib.Core.Bool.{Bool, true, false, ◌||◌}
use mathlib.Core.List.{List, [], ◌∷◌}
use Prim.Native.Nat.{ℕ, suc, ◌+◌, ◌-◌, ◌*◌, ◌≤◌, ◌<◌}
use native.Mathlib.Numerals.{add-one}
use native.Mathlib.Omega.{arith}
use lib.ListN.{get_or}
use Rattle.sheet_valves.specs.Tables.{variant_count, wheels, unfilled, cell_place, valve_at}
use Rattle.sheet_valves.specs.Pairs.{one_valve, among, repeats, row_of, pair_from, first_pair}
use Rattle.sheet_valves.specs.declared.Table.{Table}

-- the six tests that the code makes of four
pub six : (a b c d : Option ℕ) → repeats (a ∷ b ∷ c ∷ d ∷ []) ≡ (one_valve a b || (one_valve a c || (one_valve a d || (one_valve b c || (one_valve b d || one_valve c d)))))
unfolding repeats among
six a b c d = go (one_valve a b) (one_valve a c) (one_valve a d) (one_valve b c) (one_valve b d) (one_valve c d)
  where
    go : (p q r s t u : Bool) → ((p || (q || (r || false))) || ((s || (t || false)) || ((u || false) || (false || false)))) ≡ (p || (q || (r || (s || (t || u)))))
    go true q r s t u = refl
    go false true r s t u = refl
    go false false true s t u = refl
    go false false false true t u = refl
    go false false false false true u = refl
    go false false false false false true = refl
    go false false false false false false = refl

-- ---- the loop over the variants: v were passed

pub record Seeks (t : Table) (v : ℕ) : Type 0 where
  pub within : v ≤ variant_count
  pub rest : pair_from t (suc v) (variant_count - v) ≡ first_pair t

pub seeks_start : (t : Table) → Seeks t 0
unfolding first_pair
seeks_start t = record { within = omega arith; rest = refl }

-- the row of the variant behind the v passed, as the code reads it
abbrev pub row_from : Table → ℕ → List (Option ℕ)
row_from t k = (get_or t.cells k unfilled).valve ∷ (get_or t.cells (k + 1) unfilled).valve ∷ (get_or t.cells (k + 2) unfilled).valve ∷ (get_or t.cells (k + 3) unfilled).valve ∷ []

cell_from : (t : Table) (v w k : ℕ) → cell_place (suc v) w ≡ k → valve_at t (suc v) w ≡ (get_or t.cells k unfilled).valve
unfolding valve_at
cell_from t v w k e = ap (λ (i : ℕ). (get_or t.cells i unfilled).valve) e

pub row_from_lem : (t : Table) (v : ℕ) → row_of t (suc v) ≡ row_from t (v * wheels)
unfolding row_of
row_from_lem t v =
    let k : ℕ = v * wheels in
    rw (cell_from t v 0 k (omega arith), cell_from t v 1 (k + 1) (omega arith), cell_from t v 2 (k + 2) (omega arith), cell_from t v 3 (k + 3) (omega arith))

module _ {t : Table} {v : ℕ} (inv : Seeks t v) (h : v < variant_count) where
  left : variant_count - v ≡ suc (variant_count - suc v)
  left = omega arith

  pub seeks_stop : repeats (row_from t (v * wheels)) ≡ true → v + 1 ≡ first_pair t
  unfolding pair_from
  seeks_stop e = rw (add-one) (rw (left, row_from_lem t v, e) at inv.rest)

  pub seeks_go : repeats (row_from t (v * wheels)) ≡ false → Seeks t (v + 1)
  unfolding pair_from
  seeks_go e = record { within = omega arith; rest = rw add-one (rw (left, row_from_lem t v, e) at inv.rest) }

pub seeks_end : {t : Table} {v : ℕ} → Seeks t v → variant_count ≤ v → 0 ≡ first_pair t
unfolding pair_from
seeks_end {t} {v} inv h = let e : variant_count - v ≡ 0 = omega arith in rw e at inv.rest
