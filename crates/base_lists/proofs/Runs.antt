-- A loop over the longest run from a place on, for any test of bytes, and where the run ends.
-- Assumes nothing.
use mathlib.Core.Path.{◌≡◌, refl, sym, ◌∙◌}
use mathlib.Core.Bool.{Bool, true, false}
use mathlib.Core.List.{List}
use Prim.Native.Nat.{ℕ, suc, ◌+◌, ◌<◌, ◌≤◌, zero-le}
use native.Mathlib.Nat.{add-zero, zero-add}
use native.Mathlib.Omega.{arith}
use native.Mathlib.Numerals.{add-one}
use lib.ListN.{length, get_or, drop, drop_of_length-le, length-drop}
use lib.Seq.{drop-cons}
use Rattle.base_lists.specs.Lists.{run}
use Rattle.base_lists.proofs.Scan.{run_le}

-- the loop stands before byte k, and the run ends before byte r
pub record RunsFrom (f : ℕ → Bool) (s : List ℕ) (r k : ℕ) : Type 0 where
  pub rest : k + run f (drop k s) ≡ r

pub start : (f : ℕ → Bool) (s : List ℕ) (i : ℕ) → RunsFrom f s (i + run f (drop i s)) i
start f s i = record { rest = refl }

module _ {f : ℕ → Bool} {s : List ℕ} {r k : ℕ} (inv : RunsFrom f s r k) where
  pub end : length s ≤ k → k ≡ r
  unfolding run
  end h = sym (add-zero k) ∙ (rw (drop_of_length-le s h) at inv.rest)

  pub stop : k < length s → f (get_or s k 0) ≡ false → k ≡ r
  unfolding run
  stop h e = sym (add-zero k) ∙ (rw (drop-cons s k 0 h, e) at inv.rest)

  pub go : k < length s → f (get_or s k 0) ≡ true → RunsFrom f s r (k + 1)
  unfolding run
  go h e =
      let q : k + suc (run f (drop (suc k) s)) ≡ r = rw (drop-cons s k 0 h, e) at inv.rest in
      record { rest = rw add-one (omega arith) }

-- the run lies in the text
pub inside : (f : ℕ → Bool) (s : List ℕ) {a e : ℕ} → e ≡ a + run f (drop a s) → a ≤ length s → (a ≤ e) × (e ≤ length s)
inside f s {a} is h = omega (arith, run_le f (drop a s), length-drop a s)

-- ---- a loop that counts the bytes at the front that pass: i were passed
pub record Runs (f : ℕ → Bool) (s : List ℕ) (i : ℕ) : Type 0 where
  pub within : i ≤ length s
  pub from : RunsFrom f s (run f s) i

pub runs_start : (f : ℕ → Bool) (s : List ℕ) → Runs f s 0
runs_start f s = record { within = zero-le; from = record { rest = zero-add (run f s) } }

module _ {f : ℕ → Bool} {s : List ℕ} {i : ℕ} (inv : Runs f s i) where
  pub runs_stop : i < length s → f (get_or s i 0) ≡ false → i ≡ run f s
  runs_stop h e = stop inv.from h e

  pub runs_go : i < length s → f (get_or s i 0) ≡ true → Runs f s (i + 1)
  runs_go h e = record { within = omega arith; from = go inv.from h e }

  pub runs_end : length s ≤ i → i ≡ run f s
  runs_end h = end inv.from h
