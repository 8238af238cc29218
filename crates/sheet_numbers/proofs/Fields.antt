-- The number at a place, read byte by byte up to the next LF.
-- Assumes nothing.
use Rattle.std.specs.Prelude.{None, Option, Some}
use mathlib.Core.Path.{◌≡◌, refl, sym, ◌∙◌, ap}
use mathlib.Core.Bool.{Bool, true, false, cond}
use mathlib.Core.List.{List, [], ◌∷◌}
use Prim.Native.Nat.{ℕ, suc, ◌+◌, ◌≤◌, ◌<◌}
use native.Mathlib.Numerals.{add-one}
use native.Mathlib.Omega.{arith}
use borrow.Author.Tests.{eq-eqb, ne_eqb}
use lib.Dec.{eqb}
use lib.ListN.{length, get_or, drop, drop_of_length-le}
use lib.Seq.{drop-cons, drop-drop}
use Rattle.base_bytes.specs.Bytes.{lf}
use Rattle.text_digits.specs.Digits.{digits_step, digits_from, digits_of, read_out, number_in}
use Rattle.text_digits.specs.declared.Digits as state
use Rattle.text_digits.specs.declared.Digits.TheVariants.{NoDigit}
use Rattle.sheet_totals.specs.Totals.{max_total}
use Rattle.sheet_numbers.specs.Computed.{LfSplit, onto_line, at_lf, Numbers, number_before, on_number, on_part}
use Rattle.sheet_numbers.specs.Inner.{field_by, field_in, number_at}

-- where bytes were read already
abbrev field_from : state.Digits → ℕ → LfSplit → Option (ℕ × ℕ)
field_from d at LfSplit.whole = None
field_from d at (LfSplit.parted f s) = field_by (at + suc (length f)) (read_out (digits_from max_total d f))

-- the bytes up to `at` are read, to d
pub record Scans (t : List ℕ) (from : ℕ) (d : state.Digits) (at : ℕ) : Type 0 where
  pub rest : field_from d at (at_lf (drop at t)) ≡ number_at t from

pub scans_start : (t : List ℕ) (from : ℕ) → Scans t from NoDigit from
unfolding number_at number_in digits_of
scans_start t from = record { rest = go (at_lf (drop from t)) }
  where
    go : (p : LfSplit) → field_from NoDigit from p ≡ field_in from p
    go LfSplit.whole = refl
    go (LfSplit.parted f s) = refl

module _ {t : List ℕ} {from : ℕ} {d : state.Digits} {at : ℕ} (inv : Scans t from d at) where
  pub scans_go : at < length t → (get_or t at 0 ≡ lf → ⊥) → Scans t from (digits_step max_total d (get_or t at 0)) (at + 1)
  unfolding at_lf digits_from
  scans_go h n =
      record { rest = rw add-one (sym (go (at_lf (drop (suc at) t))) ∙ (rw (drop-cons t at 0 h, ne_eqb (get_or t at 0) lf n) at inv.rest)) }
    where
      go : (p : LfSplit) → field_from d at (onto_line (get_or t at 0) p) ≡ field_from (digits_step max_total d (get_or t at 0)) (suc at) p
      go LfSplit.whole = refl
      go (LfSplit.parted f s) =
          let e : at + suc (suc (length f)) ≡ suc at + suc (length f) = omega arith in
          rw e

  pub scans_lf : at < length t → get_or t at 0 ≡ lf → field_by (at + 1) (read_out d) ≡ number_at t from
  unfolding at_lf digits_from
  scans_lf h e = rw (drop-cons t at 0 h, eq-eqb (get_or t at 0) lf e) at inv.rest

  pub scans_end : length t ≤ at → None ≡ number_at t from
  unfolding at_lf
  scans_end h = rw (drop_of_length-le t {i = at} h) at inv.rest

-- ---- what is read behind a tab

-- what stands behind the LF
Behind : List ℕ → LfSplit → Type 0
Behind s LfSplit.whole = Unit {0}
Behind s (LfSplit.parted f r) = drop (suc (length f)) s ≡ r

behind : (s : List ℕ) → Behind s (at_lf s)
unfolding at_lf Behind
behind [] = tt
behind (b ∷ s) = go (eqb b lf) (at_lf s) (behind s)
  where
    go : (x : Bool) (p : LfSplit) → Behind s p → Behind (b ∷ s) (cond x (LfSplit.parted [] s) (onto_line b p))
    go true p h = refl
    go false LfSplit.whole h = tt
    go false (LfSplit.parted f r) h = h

module _ (t : List ℕ) (at : ℕ) (rest : List ℕ → Numbers) where
  pub part_none : number_at t at ≡ None → on_part (at_lf (drop at t)) rest ≡ Numbers.bad
  unfolding number_at
  part_none = go (at_lf (drop at t))
    where
      by : (n : Option ℕ) (k : ℕ) (r : Numbers) → field_by k n ≡ None → on_number n r ≡ Numbers.bad
      by None k r e = refl
      by (Some n) k r e = let z : ◌≡◌ {A = ℕ} 0 1 = cc in absurd (omega arith)

      go : (p : LfSplit) → field_in at p ≡ None → on_part p rest ≡ Numbers.bad
      go LfSplit.whole e = refl
      go (LfSplit.parted f s) e = by (number_in max_total f) (at + suc (length f)) (rest s) e

  pub part_is : {n next : ℕ} → number_at t at ≡ Some (n, next) → on_part (at_lf (drop at t)) rest ≡ number_before n (rest (drop next t))
  unfolding number_at Behind
  part_is {n} {next} = go (at_lf (drop at t)) (behind (drop at t))
    where
      by : (m : Option ℕ) (k : ℕ) (s : List ℕ) → drop k t ≡ s → field_by k m ≡ Some (n, next) → on_number m (rest s) ≡ number_before n (rest (drop next t))
      by None k s q e = let z : ◌≡◌ {A = ℕ} 0 1 = cc in absurd (omega arith)
      by (Some m) k s q e =
          let p : ◌≡◌ {A = ℕ × ℕ} (m, k) (n, next) = cc in
          let y : m ≡ n = ap (λ (x : ℕ × ℕ). x.0) p in
          let z : k ≡ next = ap (λ (x : ℕ × ℕ). x.1) p in
          rw (← y, ← z, q)

      go : (p : LfSplit) → Behind (drop at t) p → field_in at p ≡ Some (n, next) → on_part p rest ≡ number_before n (rest (drop next t))
      go LfSplit.whole q e = let z : ◌≡◌ {A = ℕ} 0 1 = cc in absurd (omega arith)
      go (LfSplit.parted f s) q e = by (number_in max_total f) (at + suc (length f)) s (sym (drop-drop (suc (length f)) at t) ∙ q) e
