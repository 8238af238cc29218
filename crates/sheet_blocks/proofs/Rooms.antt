-- A join buffer as long as the text is long enough: the tries of a sheet don't depend on its length then, and 9 can't arise.
-- Assumes nothing.
use Rattle.std.specs.Prelude.{Err, Ok}
use mathlib.Core.Path.{◌≡◌, refl, sym, ◌∙◌, ap}
use mathlib.Core.Bool.{Bool, true, false, cond, not, ◌&&◌}
use mathlib.Core.List.{List, [], ◌∷◌, map}
use Prim.Native.Nat.{ℕ, zero, suc, ◌-◌, ◌≤◌}
use native.Mathlib.Omega.{arith}
use borrow.Author.Tests.{ltb-false, le-ltb}
use lib.Dec.{eqb, ltb}
use lib.ListN.{length, drop}
use Rattle.base_lists.specs.Lists.{is_in}
use Rattle.base_lists.proofs.More.{contra}
use Rattle.base_refusals.specs.Numbers.{number_of, outcome_no, max_text}
use Rattle.base_refusals.specs.declared.Refusal.TheVariants.{NoReading, JoinFull}
use Rattle.text_lines.specs.Lines.{lines, ranges}
use Rattle.text_lines.specs.declared.Range.{Range}
use Rattle.run_scanners.specs.Scanners.{holds_open}
use Rattle.run_joins.specs.Joins.{Lined, So, may_join, after}
use Rattle.run_lines.specs.Runs.{as_is, start, Run, ended, run_from, run_at}
use Rattle.run_lines.proofs.Bounds.{never_full}
use Rattle.read_blocks.specs.Blocks.{lines_of, run_found, found}
use Rattle.read_lengths.specs.Lengths.{flush_left}
use Rattle.sheet_blocks.specs.Sheets.{tries_from, tries_at, only_blocks, blocks_of}
use Rattle.sheet_blocks.proofs.Tries.{try}

-- a run that its buffer doesn't refuse is the same in a longer one
same-run : (cap more : ℕ) → cap ≤ more → (so : So) (ls : List Lined) → eqb (outcome_no (run_from cap so ls).stop) 9 ≡ false → run_from cap so ls ≡ run_from more so ls
unfolding run_from number_of
same-run cap more h so [] e = refl
same-run cap more h so (l ∷ ls) e = go (may_join so l) (ltb cap n) refl (is_in l.line 125 && not (holds_open (after so l).text)) e (same-run cap more h (after so l) ls)
  where
    n : ℕ
    n = length (after so l).text

    R : Bool → Bool → Bool → Run → Run
    R x y z rest = cond x (cond y (ended (Err JoinFull) so) (cond z (ended (Ok tt) (after so l)) rest)) (ended (Err NoReading) so)

    go : (x y : Bool) → ltb cap n ≡ y → (z : Bool) → eqb (outcome_no (R x y z (run_from cap (after so l) ls)).stop) 9 ≡ false
        → (eqb (outcome_no (run_from cap (after so l) ls).stop) 9 ≡ false → run_from cap (after so l) ls ≡ run_from more (after so l) ls)
        → R x y z (run_from cap (after so l) ls) ≡ R x (ltb more n) z (run_from more (after so l) ls)
    go false y q z e ih = refl
    go true true q z e ih = contra true refl e
    go true false q true e ih = rw (le-ltb more n (omega (arith, h, ltb-false cap n q)))
    go true false q false e ih = rw (le-ltb more n (omega (arith, h, ltb-false cap n q))) (ih e)

module _ (t : List ℕ) (cap : ℕ) (h : length t ≤ cap) where
  same_at : (base at : ℕ) → run_at (length t) base t at ≡ run_at cap base t at
  unfolding run_at
  same_at base at = same-run (length t) cap h (start base) (map as_is (lines (drop at t))) (never_full (length t) base t at (omega arith))

  flush-same : (at : ℕ) → flush_left t (length t) at ≡ flush_left t cap at
  unfolding flush_left found run_found
  flush-same at = rw (same_at 0 at)

  pub from_same : (n k : ℕ) (rs : List Range) → tries_from t (length t) n k rs ≡ tries_from t cap n k rs
  unfolding tries_from
  from_same n k [] = refl
  from_same n (suc k) (r ∷ rs) = from_same (suc n) k rs
  from_same n zero (r ∷ rs) = rw (flush-same r.from) (ap (λ xs. try t cap n r.from ∷ xs) (from_same (suc n) (lines_of (flush_left t cap r.from) - 1) rs))

  pub tries-same : (n at : ℕ) → tries_at t (length t) n at ≡ tries_at t cap n at
  unfolding tries_at
  tries-same n at = from_same n 0 _

-- the blocks of a sheet are those that a caller finds from its first byte on
pub blocks_are : (t : List ℕ) (cap : ℕ) → length t ≤ max_text → length t ≤ cap → blocks_of t ≡ only_blocks (tries_at t cap 1 0)
unfolding blocks_of ranges tries_at
blocks_are t cap k h = ap only_blocks (sym (from_same t max_text k 1 0 (ranges t)) ∙ from_same t cap h 1 0 (ranges t))
