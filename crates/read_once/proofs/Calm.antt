-- The search for the close passes over bytes that don't touch it, and stops at the first `}`.
-- Assumes nothing.
use Rattle.std.specs.Prelude.{None, Option, Some}
use mathlib.Core.Path.{◌≡◌, refl, sym, ◌∙◌, ap}
use mathlib.Core.Bool.{Bool, true, false, not, cond, ◌||◌}
use mathlib.Core.List.{List, [], ◌∷◌}
use mathlib.Core.Logic.{inl, inr}
use Prim.Native.Nat.{ℕ, zero, suc, ◌+◌, ◌<◌, ◌≤◌}
use native.Mathlib.Nat.{add-zero}
use native.Mathlib.Omega.{arith}
use native.Mathlib.Numerals.{add-one}
use lib.Dec.{eqb, leb}
use lib.ListN.{length, get_or, drop, drop_of_length-le}
use lib.Seq.{drop-cons}
use borrow.Author.Tests.{eqb-true, eqb-false, leb-true, leb-false, not-false}
use types.Run.{OneOf}
use Rattle.base_lists.specs.Lists.{all, is_in, run}
use Rattle.base_lists.proofs.More.{contra, not_in}
use Rattle.base_bytes.specs.Bytes.{is_quote}
use Rattle.block_grammar.specs.Close.{turned, fresh}
use Rattle.block_grammar.specs.ComputedClose.{Scanned, going, scan_step, find_close}
use Rattle.block_grammar.proofs.Close as close
use Rattle.block_grammar.proofs.Close.{quote-lf}
use Rattle.block_close.specs.Inner.{Shuts}
use Rattle.block_close.proofs.Search as scans
use Rattle.read_once.specs.Inner.{specials, is_calm}

calm_step : (b : ℕ) → is_in specials b ≡ false → Scanned.on fresh ≡ scan_step fresh b
unfolding scan_step turned is_quote is_in
calm_step b h = go (eqb b 34) (eqb b 39) (eqb b 92) (eqb b 125) (eqb b 10) h
  where
    go : (v w x y z : Bool) → (v || (w || (x || (y || (z || false))))) ≡ false → Scanned.on fresh ≡ cond z Scanned.broken (cond x (going None true) (cond y Scanned.closed (going (cond (v || (w || false)) (Some b) None) false)))
    go true w x y z h = contra true refl h
    go false true x y z h = contra true refl h
    go false false true y z h = contra true refl h
    go false false false true z h = contra true refl h
    go false false false false true h = contra true refl h
    go false false false false false h = refl

-- one byte
pub calm_byte : (t : List ℕ) (i : ℕ) → i < length t → is_in specials (get_or t i 0) ≡ false → find_close t (i + 1) ≡ find_close t i
unfolding find_close
calm_byte t i l h = (close.go (close.start t i) l {v = fresh} (calm_step (get_or t i 0) h)).rest

-- bytes that pass a test which none of those passes
module _ (f : ℕ → Bool) (c : all (λ x. not (f x)) specials ≡ true) (t : List ℕ) where
  pub calm_one : (i : ℕ) → i < length t → f (get_or t i 0) ≡ true → find_close t (i + 1) ≡ find_close t i
  calm_one i l e = calm_byte t i l (not_in f specials (get_or t i 0) c e)

  calm_run : (k i : ℕ) → k ≤ run f (drop i t) → find_close t (i + k) ≡ find_close t i
  unfolding run
  calm_run zero i h = rw add-zero
  calm_run (suc k) i h = go (leb (length t) i) refl (calm_run k (i + 1))
    where
      step : i < length t → (x : Bool) → f (get_or t i 0) ≡ x → suc k ≤ cond x (suc (run f (drop (suc i) t))) 0 → (k ≤ run f (drop (i + 1) t) → find_close t (i + 1 + k) ≡ find_close t (i + 1)) → find_close t (i + suc k) ≡ find_close t i
      step l true p n ih =
          let z : i + suc k ≡ i + 1 + k = omega arith in
          rw z (ih (rw add-one (omega arith)) ∙ calm_one i l p)
      step l false p n ih = absurd (omega arith)

      go : (x : Bool) → leb (length t) i ≡ x → (k ≤ run f (drop (i + 1) t) → find_close t (i + 1 + k) ≡ find_close t (i + 1)) → find_close t (i + suc k) ≡ find_close t i
      go true p ih = let n : suc k ≤ 0 = rw (drop_of_length-le t {i = i} (leb-true (length t) i p)) at h in absurd (omega arith)
      go false p ih = let l = leb-false (length t) i p in step l (f (get_or t i 0)) refl (rw (drop-cons t i 0 l) at h) ih

  pub calm : (i k : ℕ) {e : ℕ} → e ≡ i + k → k ≤ run f (drop i t) → find_close t e ≡ find_close t i
  calm i k is h = ap (find_close t) is ∙ calm_run k i h

-- ---- the loop that passes a stretch of such bytes: it began at i and stands before byte k
pub record Passes (t : List ℕ) (i k : ℕ) : Type 0 where
  pub from : i ≤ k
  pub close : find_close t k ≡ find_close t i

pub passes-start : (t : List ℕ) (i : ℕ) → Passes t i i
passes-start t i = record { from = omega arith; close = refl }

pub passes_byte : (e : ℕ) {t : List ℕ} {i k : ℕ} {x : Bool} → Passes t i k → k < length t → x ≡ is_calm (get_or t k 0) → not x ≡ false → e ≡ k + 1 → Passes t i e
unfolding is_calm is_in all
passes_byte e {t} {i} {k} {x} inv l is n q =
    record { from = omega (arith, inv.from); close = ap (find_close t) q ∙ calm_one is_calm refl t k l (sym is ∙ not-false x n) ∙ inv.close }

pub passed : {t : List ℕ} {i k : ℕ} → Passes t i k → (i ≤ k) × (find_close t k ≡ find_close t i)
passed inv = (inv.from, inv.close)

-- the search goes on behind it
pub stretch : {t : List ℕ} {r : Option ℕ} {k e : ℕ} → close.Scans t r k fresh → find_close t e ≡ find_close t k → close.Scans t r e fresh
unfolding find_close
stretch inv h = record { rest = h ∙ inv.rest }

-- ---- at the close, and before it
module _ (t : List ℕ) where
  pub here : (i : ℕ) → i < length t → get_or t i 0 ≡ 125 → find_close t i ≡ Some i
  here i l e = sym (scans.closed (close.start t i) (record { there = l; flat = rw e }) e)

  pub nowhere : (i : ℕ) → length t ≤ i → find_close t i ≡ None
  nowhere i l = sym (close.end (close.start t i) l)

  pub not_here : (i : ℕ) {c : ℕ} → (get_or t i 0 ≡ 125 → ⊥) → find_close t i ≡ Some c → i < c
  not_here i {c} n h = go (eqb i c) refl
    where
      go : (x : Bool) → eqb i c ≡ x → i < c
      go true p = absurd (n (rw (eqb-true i c p) (close.found t i c h).brace))
      go false p = omega (arith, (close.found t i c h).from, eqb-false i c p)

  pub same_close : (i : ℕ) {c : ℕ} → i < length t → get_or t i 0 ≡ 125 → find_close t i ≡ Some c → c ≡ i
  same_close i {c} l e h = let z : Some i ≡ Some c = sym (here i l e) ∙ h in cc

-- ---- over a value in quotes, whose opening quote stands at k
module _ (t : List ℕ) (k : ℕ) (l : k < length t) (h : is_quote (get_or t k 0) ≡ true) where
  one_of : OneOf (34 ∷ 39 ∷ []) (get_or t k 0)
  unfolding is_quote is_in
  one_of = go (eqb (get_or t k 0) 34) (eqb (get_or t k 0) 39) refl refl h
    where
      go : (x y : Bool) → eqb (get_or t k 0) 34 ≡ x → eqb (get_or t k 0) 39 ≡ y → (x || (y || false)) ≡ true → OneOf (34 ∷ 39 ∷ []) (get_or t k 0)
      go true y p q e = inl (eqb-true (get_or t k 0) 34 p)
      go false true p q e = inr (eqb-true (get_or t k 0) 39 q)
      go false false p q e = contra false e refl

  on_it : scans.On t k
  on_it = record { there = l; flat = quote-lf (get_or t k 0) h }

  pub quote-passed : {p : Option ℕ} {e : ℕ} → Shuts t (get_or t k 0) (k + 1) p → p ≡ Some e → find_close t (e + 1) ≡ find_close t k
  unfolding find_close
  quote-passed s e = (scans.passed (close.start t k) on_it one_of s e).rest

  pub quote_unshut : {p : Option ℕ} → Shuts t (get_or t k 0) (k + 1) p → p ≡ None → find_close t k ≡ None
  quote_unshut s e = sym (scans.unshut (close.start t k) on_it one_of s e)
