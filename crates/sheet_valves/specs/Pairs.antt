-- "At the end no variant may have one valve at two wheels." By rules: proved_valves/specs/Pairs.
use Rattle.std.specs.Prelude.{ℕ, zero, suc, Bool, false, cond, ◌||◌, List, [], ◌∷◌, eqb, None, Option, Some}
use Rattle.sheet_valves.specs.Tables.{variant_count, valve_at}
use Rattle.sheet_valves.specs.declared.Table.{Table}

-- two wheels have one valve; "unfilled cells don't count"
unfoldable pub one_valve : Option ℕ → Option ℕ → Bool
one_valve None b = false
one_valve (Some x) None = false
one_valve (Some x) (Some y) = eqb x y

-- x is the valve of one of the wheels
unfoldable pub among : Option ℕ → List (Option ℕ) → Bool
among x [] = false
among x (y ∷ ys) = one_valve x y || among x ys

-- one of the wheels has the valve of a later one
unfoldable pub repeats : List (Option ℕ) → Bool
repeats [] = false
repeats (x ∷ xs) = among x xs || repeats xs

unfoldable pub row_of : Table → ℕ → List (Option ℕ)
row_of t v = valve_at t v 0 ∷ valve_at t v 1 ∷ valve_at t v 2 ∷ valve_at t v 3 ∷ []

-- the first of n variants from v on that has a pair, 0 where none has
unfoldable pub pair_from : Table → ℕ → ℕ → ℕ
pair_from t v zero = 0
pair_from t v (suc n) = cond (repeats (row_of t v)) v (pair_from t (suc v) n)

unfoldable pub first_pair : Table → ℕ
first_pair t = pair_from t 1 variant_count
