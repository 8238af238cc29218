-- The whole sheet: "this refusal is given, nothing else being refused, exactly when such a pair exists in the final table", and "a block for one variant changes no
-- other row".
use Rattle.std.specs.Prelude.{◌≡◌, true, false, not, List, ◌∷◌, ◌++◌, map, ℕ, ◌≤◌, Err, None, Ok, Some, Option, Result}
use Rattle.base_lists.specs.Lists.{all}
use Rattle.base_refusals.specs.Numbers.{max_text}
use Rattle.base_refusals.specs.declared.Refusal.{Refusal}
use Rattle.base_refusals.specs.declared.Refusal.TheVariants.{SharedValve}
use Rattle.text_checks.specs.Check.{check_of}
use Rattle.sheet_blocks.specs.Sheets.{Try, blocks_of}
use Rattle.sheet_valves.specs.Tables.{max_valve, empty_table, IsPlace, valve_at}
use Rattle.sheet_valves.specs.declared.Setting.{Setting}
use Rattle.sheet_variants.specs.Variants.{heard, is_stop, variants_of, settings_of, sheet_table}
use Rattle.proved_valves.specs.Cells.{any_for}
use Rattle.proved_valves.specs.Pairs.{FirstIs, PairIn}

-- "nothing else being refused": neither 1 nor 2 nor 9, and no block
pub record NothingElse (t : List ℕ) (cap : ℕ) : Type 0 where
  pub text : check_of t ≡ Ok tt
  pub join : max_text ≤ cap
  pub blocks : all (λ x. not (is_stop (heard t x))) (blocks_of t) ≡ true

-- 21 is given, "nothing else being refused, exactly when such a pair exists in the final table"
abbrev pub PairExactly : Type 0
PairExactly = (t : List ℕ) (cap : ℕ)
    → ((variants_of t cap).outcome ≡ Err SharedValve → NothingElse t cap × PairIn (sheet_table t)) × (NothingElse t cap → PairIn (sheet_table t) → (variants_of t cap).outcome ≡ Err SharedValve)

-- and names the first variant that has one, 0 where none has
abbrev pub FirstNamed : Type 0
FirstNamed = (t : List ℕ) (cap : ℕ) → NothingElse t cap → FirstIs (sheet_table t) (variants_of t cap).variant

-- a table that is handed out is the final one, nothing was refused, and no variant in it has a pair
pub record Handed (t : List ℕ) (cap : ℕ) : Type 0 where
  pub else : NothingElse t cap
  pub is : (variants_of t cap).table ≡ sheet_table t
  pub none : PairIn (sheet_table t) → ⊥

-- and one is handed out wherever nothing else is refused and there is no pair
abbrev pub HandedWhole : Type 0
HandedWhole = (t : List ℕ) (cap : ℕ) → ((variants_of t cap).outcome ≡ Ok tt → Handed t cap) × (NothingElse t cap → (PairIn (sheet_table t) → ⊥) → (variants_of t cap).outcome ≡ Ok tt)

-- "A refusal hands out no table."
abbrev pub NoneRefused : Type 0
NoneRefused = (t : List ℕ) (cap : ℕ) (r : Refusal) → (variants_of t cap).outcome ≡ Err r → (variants_of t cap).table ≡ empty_table

-- ---- "Later blocks override earlier ones of the same variant and wheel."

-- of the blocks xs, the last that is for that variant and wheel gives the valve x
pub record LastBlock (t : List ℕ) (xs : List Try) (v w x : ℕ) : Type 0 where
  pub before : List Try
  pub block : Try
  pub behind : List Try
  pub split : xs ≡ before ++ (block ∷ behind)
  pub says : heard t block ≡ Ok (Some (record { variant = v; wheel = w; valve = x }))
  pub none : any_for v w (settings_of t behind) ≡ false

-- a cell has the valve of the last of the sheet's blocks for it, and only of that
abbrev pub LastBlockCounts : Type 0
LastBlockCounts = (t : List ℕ) (v w : ℕ) → IsPlace v w → (x : ℕ)
    → (LastBlock t (blocks_of t) v w x → valve_at (sheet_table t) v w ≡ Some x) × (valve_at (sheet_table t) v w ≡ Some x → LastBlock t (blocks_of t) v w x)

-- and is unfilled exactly where no block is for it
abbrev pub NoBlockUnfilled : Type 0
NoBlockUnfilled = (t : List ℕ) (v w : ℕ) → IsPlace v w
    → (any_for v w (settings_of t (blocks_of t)) ≡ false → valve_at (sheet_table t) v w ≡ None) × (valve_at (sheet_table t) v w ≡ None → any_for v w (settings_of t (blocks_of t)) ≡ false)

-- "`valve` (0 to 255)": so is each cell that is filled
abbrev pub InRange : Type 0
InRange = (t : List ℕ) (v w x : ℕ) → IsPlace v w → valve_at (sheet_table t) v w ≡ Some x → x ≤ max_valve

-- ---- "a block for one variant changes no other row"

-- the sheet t has one block more than u, which says h
pub record BlockMore (t u : List ℕ) (h : Result (Option Setting) Refusal) : Type 0 where
  pub before : List (Result (Option Setting) Refusal)
  pub behind : List (Result (Option Setting) Refusal)
  pub with : map (heard t) (blocks_of t) ≡ before ++ (h ∷ behind)
  pub without : map (heard u) (blocks_of u) ≡ before ++ behind

abbrev pub OtherRowsStay : Type 0
OtherRowsStay = (t u : List ℕ) (s : Setting) → BlockMore t u (Ok (Some s)) → (v w : ℕ) → IsPlace v w → (s.variant ≡ v → ⊥) → valve_at (sheet_table t) v w ≡ valve_at (sheet_table u) v w

-- "Blocks without any of the three keys are passed over.": such a block changes nothing
abbrev pub PassedChangesNone : Type 0
PassedChangesNone = (t u : List ℕ) → BlockMore t u (Ok None) → sheet_table t ≡ sheet_table u
