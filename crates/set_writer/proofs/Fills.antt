-- Measuring or writing a text part by part: one invariant for every loop.
-- Assumes nothing.
use mathlib.Core.Path.{◌≡◌, refl, sym, ◌∙◌}
use mathlib.Core.Bool.{Bool, true, false}
use mathlib.Core.List.{List, [], ◌++◌}
use Prim.Native.Nat.{ℕ, ◌+◌, ◌≤◌}
use native.Mathlib.Nat.{add-zero}
use native.Mathlib.Omega.{arith}
use lib.ListN.{length, length-append}
use lib.Seq.{length-sets}
use Rattle.base_lists.proofs.Sets.{sets-append}
use Rattle.set_writer.specs.Inner.{put_if}

pub put-append : (really : Bool) (l : List ℕ) (i : ℕ) (xs ys : List ℕ) → put_if really l i (xs ++ ys) ≡ put_if really (put_if really l i xs) (i + length xs) ys
unfolding put_if
put-append true l i xs ys = sets-append l i xs ys
put-append false l i xs ys = refl

pub put-length : (really : Bool) (l : List ℕ) (i : ℕ) (xs : List ℕ) → length (put_if really l i xs) ≡ length l
unfolding put_if
put-length true l i xs = length-sets l i xs
put-length false l i xs = refl

pub put-nothing : (really : Bool) (l : List ℕ) (i : ℕ) → put_if really l i [] ≡ l
unfolding put_if
put-nothing true l i = refl
put-nothing false l i = refl

-- where k stands, `rest` is still to come of `whole`, which began at `at` of buf₀
pub record Fills (really : Bool) (buf₀ : List ℕ) (at : ℕ) (whole buf : List ℕ) (k : ℕ) (rest : List ℕ) : Type 0 where
  pub long : length buf ≡ length buf₀
  pub room : really ≡ true → at + length whole ≤ length buf₀
  pub left : k + length rest ≡ at + length whole
  pub same : put_if really buf k rest ≡ put_if really buf₀ at whole

pub fills_start : (really : Bool) (buf : List ℕ) (at : ℕ) (whole : List ℕ) → (really ≡ true → at + length whole ≤ length buf) → Fills really buf at whole buf at whole
fills_start really buf at whole h = record { long = refl; room = h; left = refl; same = refl }

module _ {really : Bool} {buf₀ : List ℕ} {at : ℕ} {whole buf : List ℕ} {k : ℕ} {rest : List ℕ} (inv : Fills really buf₀ at whole buf k rest) where
  pub fills_end : rest ≡ [] → (k ≡ at + length whole) × (buf ≡ put_if really buf₀ at whole)
  fills_end e = (sym (add-zero k) ∙ (rw e at inv.left), sym (put-nothing really buf k) ∙ (rw e at inv.same))

  module _ (xs more : List ℕ) (e : rest ≡ xs ++ more) where
    -- the next part has room, where it is written
    pub fills_room : really ≡ true → k + length xs ≤ length buf
    fills_room h = omega (arith, rw (e, length-append xs more) at inv.left, inv.long, inv.room h)

    -- it isn't longer than the whole
    pub fills_within : k + length xs ≤ at + length whole
    fills_within = omega (arith, rw (e, length-append xs more) at inv.left)

    pub fills_go : {k' : ℕ} {buf' : List ℕ} → k' ≡ k + length xs → buf' ≡ put_if really buf k xs → Fills really buf₀ at whole buf' k' more
    fills_go {k'} {buf'} p q =
        record {
          long = rw q (put-length really buf k xs) ∙ inv.long;
          room = inv.room;
          left = omega (arith, rw (e, length-append xs more) at inv.left, p);
          same = rw (q, p) (sym (put-append really buf k xs more)) ∙ (rw e at inv.same);
        }

-- what a function promises of its answer and of the lent memory, as its two clauses
pub both : {A B : Type 0} → A × B → record { value : A; out_after : B }
both e = record { value = e.0; out_after = e.1 }
