-- A block's setting is read exactly by the rule.
-- Assumes nothing.
use Rattle.std.specs.Prelude.{None, Option, Some, Err, Ok, Result}
use mathlib.Core.Path.{◌≡◌, refl, sym, ◌∙◌, ap}
use mathlib.Core.Bool.{Bool, true, false, cond, ◌&&◌}
use mathlib.Core.List.{List, [], ◌∷◌}
use Prim.Native.Nat.{ℕ, zero, suc, ◌≤◌, ◌<◌}
use native.Mathlib.Omega.{arith}
use lib.ListN.{get_or}
use Rattle.base_lists.specs.Lists.{same, all}
use Rattle.base_lists.proofs.Scan.{both}
use Rattle.base_lists.proofs.Same.{same_true}
use Rattle.base_refusals.specs.declared.Refusal.TheVariants.{BadSetting}
use Rattle.block_grammar.specs.Meaning.{Entry, lookup}
use Rattle.set_table.specs.Types.{Texts, value_bytes}
use Rattle.set_table.specs.Rows.{meaning_of}
use Rattle.set_table.specs.Shape.{is_free}
use Rattle.set_table.specs.declared.Attrs.{Attrs}
use Rattle.set_wellformed.specs.WellFormed.{table_ok, well_formed}
use Rattle.text_checks.specs.Check.{is_text}
use Rattle.proved_grammar.specs.Meaning.{distinct}
use Rattle.proved_sets.specs.Formed.{entry_ok, wf}
use Rattle.proved_sets.proofs.WellFormedMeans.{means_wf}
use Rattle.text_digits.specs.Decimal.{decimal}
use Rattle.text_digits.specs.Digits.{number_in}
use Rattle.set_keyed.specs.Keyed.{values_by, key_found}
use Rattle.set_keyed.proofs.Means.{key_means}
use Rattle.sheet_valves.specs.Tables.{variant_count, wheels, max_valve, IsPlace, is_place}
use Rattle.sheet_valves.specs.Settings.{variant_name, wheel_name, valve_name, front_left, front_right, rear_left, rear_right, wheel_of, setting_from, settled_by, read_setting, setting_by, setting_of}
use Rattle.sheet_valves.specs.declared.Setting.{Setting}
use Rattle.sheet_valves.proofs.Cells.{yes_place}
use Rattle.sheet_valves.proofs.Settings.{settled_in, only_bad}
use Rattle.sheet_valves.proofs.Settings as settings
use Rattle.proved_valves.specs.Settings.{wheel_names, Counts, Silent, CountsExactly, PassedOver, RefusedElse, NameOnce}
use Rattle.proved_valves.proofs.Numbers.{read_is, is_read}
use Rattle.set_table.specs.declared.Value.{Value}
use Rattle.base_refusals.specs.declared.Refusal.{Refusal}

-- ---- the wheel's name

wheel_name_lem : (s : List ℕ) → wheel_of s < wheels → s ≡ get_or wheel_names (wheel_of s) []
unfolding wheel_of
wheel_name_lem s h = go (same s front_left) refl (same s front_right) refl (same s rear_left) refl (same s rear_right) refl h
  where
    go : (a : Bool) → same s front_left ≡ a → (b : Bool) → same s front_right ≡ b → (c : Bool) → same s rear_left ≡ c → (d : Bool) → same s rear_right ≡ d
        → cond a 0 (cond b 1 (cond c 2 (cond d 3 wheels))) < wheels → s ≡ get_or wheel_names (cond a 0 (cond b 1 (cond c 2 (cond d 3 wheels)))) []
    go true p b q c r d t h = same_true s front_left p
    go false p true q c r d t h = same_true s front_right q
    go false p false q true r d t h = same_true s rear_left r
    go false p false q false r true t h = same_true s rear_right t
    go false p false q false r false t h = absurd (omega arith)

name_wheel : (w : ℕ) → w < wheels → wheel_of (get_or wheel_names w []) ≡ w
unfolding wheel_of same
name_wheel zero h = refl
name_wheel (suc zero) h = refl
name_wheel (suc (suc zero)) h = refl
name_wheel (suc (suc (suc zero))) h = refl
name_wheel (suc (suc (suc (suc w)))) h = absurd (omega arith)

-- ---- the setting

-- what counts is read
pub counts_set : {m : List Entry} {s : Setting} → Counts m s → setting_of m ≡ Ok (Some s)
unfolding setting_of setting_by read_setting
counts_set {m} {s} p =
    rw (p.variant_key, p.wheel_key, p.valve_key, name_wheel s.wheel p.place.wheel, is_read {most = variant_count} {n = s.variant} (record { written = refl; within = p.place.last }), is_read {most = max_valve} {n = s.valve} (record { written = refl; within = p.valve_range }))
    (sym (settled_in s.variant s.wheel s.valve p.place))

-- and what is read counts, of any table
record Three (v w x : List ℕ) (s : Setting) : Type 0 where
  place : IsPlace s.variant s.wheel
  range : s.valve ≤ max_valve
  variant_is : v ≡ decimal s.variant
  wheel_is : w ≡ get_or wheel_names s.wheel []
  valve_is : x ≡ decimal s.valve

read_three : (v w x : List ℕ) (s : Setting) → read_setting v w x ≡ Ok (Some s) → Three v w x s
unfolding read_setting setting_from
read_three v w x s e = go (number_in variant_count v) refl (number_in max_valve x) refl e
  where
    here : (k n : ℕ) → number_in variant_count v ≡ Some k → number_in max_valve x ≡ Some n → (b : Bool) → is_place k (wheel_of w) ≡ b → cond b (Ok (Some (record { variant = k; wheel = wheel_of w; valve = n }))) (Err BadSetting) ≡ Ok (Some s) → Three v w x s
    here k n p q true y f =
        let z : record { variant = k; wheel = wheel_of w; valve = n } ≡ s = cc in
        let i = yes_place k (wheel_of w) y in
        rw (← z) (record { place = i; range = (read_is q).within; variant_is = (read_is p).written; wheel_is = wheel_name_lem w i.wheel; valve_is = (read_is q).written })
    here k n p q false y f = let z : ◌≡◌ {A = ℕ} 0 1 = cc in absurd (omega arith)

    go : (a : Option ℕ) → number_in variant_count v ≡ a → (c : Option ℕ) → number_in max_valve x ≡ c → settled_by a (wheel_of w) c ≡ Ok (Some s) → Three v w x s
    go None p c q f = let z : ◌≡◌ {A = ℕ} 0 1 = cc in absurd (omega arith)
    go (Some k) p None q f = let z : ◌≡◌ {A = ℕ} 0 1 = cc in absurd (omega arith)
    go (Some k) p (Some n) q f = here k n p q (is_place k (wheel_of w)) refl f

by_three : (t : Texts) (m : List Entry) (s : Setting) (a b c : Option Value) → values_by t a ≡ lookup variant_name m → values_by t b ≡ lookup wheel_name m → values_by t c ≡ lookup valve_name m
    → setting_by (values_by t a) (values_by t b) (values_by t c) ≡ Ok (Some s) → Counts m s
unfolding setting_by
by_three t m s None None None p q r e = let z : ◌≡◌ {A = ℕ} 0 1 = cc in absurd (omega arith)
by_three t m s None None (Some x) p q r e = let z : ◌≡◌ {A = ℕ} 0 1 = cc in absurd (omega arith)
by_three t m s None (Some w) c p q r e = let z : ◌≡◌ {A = ℕ} 0 1 = cc in absurd (omega arith)
by_three t m s (Some v) None c p q r e = let z : ◌≡◌ {A = ℕ} 0 1 = cc in absurd (omega arith)
by_three t m s (Some v) (Some w) None p q r e = let z : ◌≡◌ {A = ℕ} 0 1 = cc in absurd (omega arith)
by_three t m s (Some v) (Some w) (Some x) p q r e =
    let z = read_three (value_bytes t v) (value_bytes t w) (value_bytes t x) s e in
    record {
      place = z.place;
      valve_range = z.range;
      variant_key = sym p ∙ ap (λ (l : List ℕ). l ∷ []) z.variant_is;
      wheel_key = sym q ∙ ap (λ (l : List ℕ). l ∷ []) z.wheel_is;
      valve_key = sym r ∙ ap (λ (l : List ℕ). l ∷ []) z.valve_is;
    }

pub set_counts : (t : Texts) (a : Attrs) {s : Setting} → setting_of (meaning_of t a) ≡ Ok (Some s) → Counts (meaning_of t a) s
unfolding is_free same
set_counts t a {s} e =
    by_three t (meaning_of t a) s (key_found t a variant_name) (key_found t a wheel_name) (key_found t a valve_name) (key_means t a variant_name refl) (key_means t a wheel_name refl) (key_means t a valve_name refl) (settings.found t a ∙ e)

-- a block is passed over exactly if it has none of the three keys
pub silent_nothing : {m : List Entry} → Silent m → setting_of m ≡ Ok None
unfolding setting_of setting_by
silent_nothing p = rw (p.no_variant, p.no_wheel, p.no_valve)

pub nothing_silent : (m : List Entry) → setting_of m ≡ Ok None → Silent m
unfolding setting_of setting_by read_setting setting_from
nothing_silent m e = go (lookup variant_name m) refl (lookup wheel_name m) refl (lookup valve_name m) refl e
  where
    no : (b : Bool) (s : Setting) → cond b (Ok (Some s)) (Err BadSetting) ≡ Ok None → Silent m
    no true s f = let z : ◌≡◌ {A = ℕ} 0 1 = cc in absurd (omega arith)
    no false s f = let z : ◌≡◌ {A = ℕ} 0 1 = cc in absurd (omega arith)

    never : (a : Option ℕ) (w : ℕ) (c : Option ℕ) → settled_by a w c ≡ Ok None → Silent m
    never None w c f = let z : ◌≡◌ {A = ℕ} 0 1 = cc in absurd (omega arith)
    never (Some v) w None f = let z : ◌≡◌ {A = ℕ} 0 1 = cc in absurd (omega arith)
    never (Some v) w (Some x) f = no (is_place v w) (record { variant = v; wheel = w; valve = x }) f

    go : (a : List (List ℕ)) → lookup variant_name m ≡ a → (b : List (List ℕ)) → lookup wheel_name m ≡ b → (c : List (List ℕ)) → lookup valve_name m ≡ c → setting_by a b c ≡ Ok None → Silent m
    go [] p [] q [] r f = record { no_variant = p; no_wheel = q; no_valve = r }
    go [] p [] q (x ∷ xs) r f = let z : ◌≡◌ {A = ℕ} 0 1 = cc in absurd (omega arith)
    go [] p (w ∷ ws) q c r f = let z : ◌≡◌ {A = ℕ} 0 1 = cc in absurd (omega arith)
    go (v ∷ vs) p [] q c r f = let z : ◌≡◌ {A = ℕ} 0 1 = cc in absurd (omega arith)
    go (v ∷ vs) p (w ∷ ws) q [] r f = let z : ◌≡◌ {A = ℕ} 0 1 = cc in absurd (omega arith)
    go (v ∷ vs) p (w ∷ ws) q (x ∷ xs) r f = never (number_in variant_count v) (wheel_of w) (number_in max_valve x) f

-- ======== the theorems

pub counts_exactly : CountsExactly
counts_exactly t a s = (set_counts t a, counts_set)

pub passed_over : PassedOver
passed_over m = (nothing_silent m, silent_nothing)

pub refused_else : RefusedElse
refused_else t a n c = go (setting_of (meaning_of t a)) refl
  where
    go : (h : Result (Option Setting) Refusal) → setting_of (meaning_of t a) ≡ h → setting_of (meaning_of t a) ≡ Err BadSetting
    go (Ok None) e = absurd (n (nothing_silent (meaning_of t a) e))
    go (Err r) e = e ∙ ap (λ z. Err z) (only_bad (meaning_of t a) e)
    go (Ok (Some s)) e = absurd (c s (set_counts t a e))

pub name_once : NameOnce
unfolding well_formed wf
name_once t a e =
    let k = (both (is_text t.second) (table_ok t a) (both (is_text t.first) (is_text t.second && table_ok t a) e).1).1 in
    (both (all entry_ok (meaning_of t a)) (distinct (meaning_of t a)) (means_wf t a k)).1
