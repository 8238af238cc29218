-- What the table holds: "Later blocks override earlier ones of the same variant and wheel.", and "a block for one variant changes no other row".
use Rattle.std.specs.Prelude.{◌≡◌, Bool, true, false, cond, ◌&&◌, List, [], ◌∷◌, ◌++◌, ℕ, eqb, length, None, Some}
use Rattle.sheet_valves.specs.Tables.{cell_count, IsPlace, valve_at, with_setting, filled_with}
use Rattle.sheet_valves.specs.declared.Table.{Table}
use Rattle.sheet_valves.specs.declared.Setting.{Setting}

-- the setting is for that variant and wheel
unfoldable pub is_for : ℕ → ℕ → Setting → Bool
is_for v w s = eqb s.variant v && eqb s.wheel w

unfoldable pub any_for : ℕ → ℕ → List Setting → Bool
any_for v w [] = false
any_for v w (s ∷ ss) = cond (is_for v w s) true (any_for v w ss)

-- the last setting for that variant and wheel has the valve x
pub record LastFor (v w x : ℕ) (ss : List Setting) : Type 0 where
  pub before : List Setting
  pub behind : List Setting
  pub split : ss ≡ before ++ (record { variant = v; wheel = w; valve = x } ∷ behind)
  pub none : any_for v w behind ≡ false

-- a cell has the valve of the last setting for it, and only of that
abbrev pub LastCounts : Type 0
LastCounts = (v w : ℕ) → IsPlace v w → (x : ℕ) (ss : List Setting) → (LastFor v w x ss → valve_at (filled_with ss) v w ≡ Some x) × (valve_at (filled_with ss) v w ≡ Some x → LastFor v w x ss)

-- and is unfilled exactly where there is none
abbrev pub UnfilledElse : Type 0
UnfilledElse = (v w : ℕ) → IsPlace v w → (ss : List Setting) → (any_for v w ss ≡ false → valve_at (filled_with ss) v w ≡ None) × (valve_at (filled_with ss) v w ≡ None → any_for v w ss ≡ false)

-- "a table of 30 variants by 4 wheels": each has all its cells
abbrev pub AllCells : Type 0
AllCells = (ss : List Setting) → length (filled_with ss).cells ≡ cell_count

-- one setting changes no cell of another variant, in any table
abbrev pub RowStays : Type 0
RowStays = (v w : ℕ) → IsPlace v w → (s : Setting) → (s.variant ≡ v → ⊥) → (t : Table) → valve_at (with_setting t s) v w ≡ valve_at t v w

-- nor does one more among others, wherever it stands
abbrev pub RowWithout : Type 0
RowWithout = (v w : ℕ) → IsPlace v w → (s : Setting) → (s.variant ≡ v → ⊥) → (a b : List Setting) → valve_at (filled_with (a ++ (s ∷ b))) v w ≡ valve_at (filled_with (a ++ b)) v w
