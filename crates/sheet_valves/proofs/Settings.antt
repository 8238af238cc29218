-- What the code that reads a block's setting asks.
-- Assumes nothing.
use Rattle.std.specs.Prelude.{None, Option, Some, Err, Ok, Result}
use mathlib.Core.Path.{◌≡◌, refl}
use mathlib.Core.Bool.{Bool, true, false, cond}
use mathlib.Core.List.{List, [], ◌∷◌}
use Prim.Native.Nat.{ℕ}
use native.Mathlib.Omega.{arith}
use Rattle.base_lists.specs.Lists.{same}
use Rattle.base_refusals.specs.declared.Refusal.{Refusal}
use Rattle.base_refusals.specs.declared.Refusal.TheVariants.{BadSetting}
use Rattle.block_grammar.specs.Meaning.{Entry, lookup}
use Rattle.set_table.specs.Types.{Texts}
use Rattle.set_table.specs.Rows.{meaning_of}
use Rattle.set_table.specs.Shape.{is_free}
use Rattle.set_table.specs.declared.Attrs.{Attrs}
use Rattle.text_digits.specs.Digits.{number_in}
use Rattle.set_keyed.specs.Keyed.{values_by, key_found}
use Rattle.set_keyed.proofs.Means.{key_means}
use Rattle.sheet_valves.specs.Tables.{variant_count, max_valve, IsPlace, is_place}
use Rattle.sheet_valves.specs.Settings.{variant_name, wheel_name, valve_name, wheel_of, setting_from, settled_by, read_setting, setting_by, setting_of}
use Rattle.sheet_valves.specs.declared.Setting.{Setting}
use Rattle.sheet_valves.proofs.Cells.{place_yes, yes_place}

pub settled_in : (v w x : ℕ) → IsPlace v w → Ok (Some (record { variant = v; wheel = w; valve = x })) ≡ setting_from v w x
unfolding setting_from
settled_in v w x p = rw (place_yes p)

pub settled_out : (v w x : ℕ) → (IsPlace v w → ⊥) → Err BadSetting ≡ setting_from v w x
unfolding setting_from
settled_out v w x n = go (is_place v w) refl
  where
    go : (b : Bool) → is_place v w ≡ b → Err BadSetting ≡ cond {A = Result (Option Setting) Refusal} b (Ok (Some (record { variant = v; wheel = w; valve = x }))) (Err BadSetting)
    go true e = absurd (n (yes_place v w e))
    go false e = refl

-- the three keys as they are found
pub found : (t : Texts) (a : Attrs) → setting_by (values_by t (key_found t a variant_name)) (values_by t (key_found t a wheel_name)) (values_by t (key_found t a valve_name)) ≡ setting_of (meaning_of t a)
unfolding setting_of is_free same
found t a = rw (key_means t a variant_name refl, key_means t a wheel_name refl, key_means t a valve_name refl)

-- a set is refused by 20 alone
pub only_bad : (m : List Entry) {r : Refusal} → setting_of m ≡ Err r → r ≡ BadSetting
unfolding setting_of setting_by read_setting setting_from
only_bad m {r} = go (lookup variant_name m) (lookup wheel_name m) (lookup valve_name m)
  where
    here : (b : Bool) (s : Setting) → cond b (Ok (Some s)) (Err BadSetting) ≡ Err r → r ≡ BadSetting
    here true s f = let z : ◌≡◌ {A = ℕ} 0 1 = cc in absurd (omega arith)
    here false s f = cc

    by : (a : Option ℕ) (w : ℕ) (c : Option ℕ) → settled_by a w c ≡ Err r → r ≡ BadSetting
    by None w c f = cc
    by (Some v) w None f = cc
    by (Some v) w (Some x) f = here (is_place v w) (record { variant = v; wheel = w; valve = x }) f

    go : (a b c : List (List ℕ)) → setting_by a b c ≡ Err r → r ≡ BadSetting
    go [] [] [] f = let z : ◌≡◌ {A = ℕ} 0 1 = cc in absurd (omega arith)
    go [] [] (x ∷ xs) f = cc
    go [] (w ∷ ws) c f = cc
    go (v ∷ vs) [] c f = cc
    go (v ∷ vs) (w ∷ ws) [] f = cc
    go (v ∷ vs) (w ∷ ws) (x ∷ xs) f = by (number_in variant_count v) (wheel_of w) (number_in max_valve x) f
