-- A sheet parted behind an LF, before a line that isn't indented: its tries are those of the one part and then those of the other.
-- Assumes nothing.
use mathlib.Core.Path.{◌≡◌, refl, ◌∙◌, ap}
use mathlib.Core.Bool.{Bool, true, false}
use mathlib.Core.List.{List, ◌∷◌, ◌++◌, map}
use Prim.Native.Nat.{ℕ, zero, suc, ◌+◌, ◌<◌, ◌≤◌, zero-le}
use native.Mathlib.Nat.{add-zero}
use native.Mathlib.Omega.{arith}
use borrow.Author.Tests.{ltb-true, ltb-false}
use lib.Dec.{ltb}
use lib.ListN.{length, drop, length-map, length-append}
use Rattle.text_lines.specs.Lines.{lines, line_from}
use Rattle.text_lines.proofs.Lines.{lines_end, line_at_lem, next_beyond, next_le}
use Rattle.run_lines.specs.Runs.{as_is, run_at, past_lines}
use Rattle.run_lines.proofs.Bounds.{lines_le}
use Rattle.read_blocks.specs.Blocks.{Found, lines_of}
use Rattle.read_blocks.proofs.Places.{past_in}
use Rattle.read_lengths.specs.Lengths.{flush_left}
use Rattle.sheet_blocks.specs.Sheets.{Try, tries_at, is_block}
use Rattle.sheet_blocks.proofs.Tries.{found_by, run-found_by, flush_by, some_lines, tries_end, try, tries_on, tries_past}
use Rattle.sheet_blocks.proofs.Goes.{block_bytes}
use Rattle.sheet_splits.specs.Parting.{is_whole, farther}
use Rattle.sheet_splits.proofs.Lines.{lines_front, end_front, drop-behind, end_behind}
use Rattle.sheet_splits.proofs.Finds.{Flat, found_in, found_front}

-- a block has no more lines than there are
block_within : (t : List ℕ) (cap at : ℕ) → at < length t → lines_of (flush_left t cap at) ≤ length (lines (drop at t))
unfolding run_at
block_within t cap at h = flush_by P t at cap zero-le (found_by P t at 0 cap (λ g. one) zero-le zero-le (run-found_by P t at 0 cap (λ r e g. rw e more) (λ r e q. zero-le)))
  where
    P : Found → Type 0
    P f = lines_of f ≤ length (lines (drop at t))

    one : 1 ≤ length (lines (drop at t))
    one = omega (arith, ap length (line_at_lem t at h))

    more : (run_at cap 0 t at).lines ≤ length (lines (drop at t))
    more = omega (arith, lines_le cap 0 (map as_is (lines (drop at t))), length-map (lines (drop at t)) as_is)

-- the lines behind it
lines_left : (k : ℕ) (t : List ℕ) (at : ℕ) → k ≤ length (lines (drop at t)) → length (lines (drop at t)) ≡ k + length (lines (drop (past_lines k t at) t))
unfolding past_lines
lines_left zero t at h = omega arith
lines_left (suc k) t at h = go (ltb at (length t)) refl (lines_left k t (line_from t at).next)
  where
    go : (x : Bool) → ltb at (length t) ≡ x
        → (k ≤ length (lines (drop (line_from t at).next t)) → length (lines (drop (line_from t at).next t)) ≡ k + length (lines (drop (past_lines k t (line_from t at).next) t)))
        → length (lines (drop at t)) ≡ suc k + length (lines (drop (past_lines k t (line_from t at).next) t))
    go true e ih = let l = ap length (line_at_lem t at (ltb-true at (length t) e)) in omega (arith, l, ih (omega (arith, h, l)))
    go false e ih = absurd (omega (arith, h, ap length (lines_end t at (ltb-false at (length t) e))))

-- ---- the front part

module _ (x y : List ℕ) (w : is_whole x ≡ true) (f : Flat (lines y)) (cap : ℕ) where
  pub flush_front : (at : ℕ) → at < length x → flush_left (x ++ y) cap at ≡ flush_left x cap at
  flush_front at h = rw (found_in (x ++ y) cap at, found_in x cap at, lines_front x y w at h, line_at_lem x at h) (found_front cap _ _ (lines y) f)

  past_front : (k at : ℕ) → k ≤ length (lines (drop at x)) → past_lines k (x ++ y) at ≡ past_lines k x at
  unfolding past_lines
  past_front zero at h = refl
  past_front (suc k) at h = go (ltb at (length x)) refl (past_front k (line_from x at).next)
    where
      go : (b : Bool) → ltb at (length x) ≡ b → (k ≤ length (lines (drop (line_from x at).next x)) → past_lines k (x ++ y) (line_from x at).next ≡ past_lines k x (line_from x at).next)
          → past_lines k (x ++ y) (line_from (x ++ y) at).next ≡ past_lines k x (line_from x at).next
      go true e ih = let l = ltb-true at (length x) e in rw (end_front x y w at l) (ih (omega (arith, h, ap length (line_at_lem x at l))))
      go false e ih = absurd (omega (arith, h, ap length (lines_end x at (ltb-false at (length x) e))))

  abbrev Parted : ℕ → ℕ → Type 0
  Parted n at = tries_at (x ++ y) cap n at ≡ tries_at x cap n at ++ tries_at (x ++ y) cap (n + length (lines (drop at x))) (length x)

  parted_end : (n at : ℕ) → at ≡ length x → Parted n at
  parted_end n at e = rw (e, tries_end x cap n (length x) (omega arith), lines_end x (length x) (omega arith), add-zero n)

  module _ (n at : ℕ) (h : at < length x) where
    all : at < length (x ++ y)
    all = omega (arith, length-append x y)

    same : try (x ++ y) cap n at ≡ try x cap n at
    same = rw (flush_front at h)

    parted_on : is_block (flush_left x cap at) ≡ false → Parted (suc n) (line_from x at).next → Parted n at
    parted_on e ih =
        let z : n + length (lines (drop at x)) ≡ suc n + length (lines (drop (line_from x at).next x)) = omega (arith, ap length (line_at_lem x at h)) in
        rw (tries_on (x ++ y) cap n at all (ap is_block (flush_front at h) ∙ e), tries_on x cap n at h e, same, end_front x y w at h, z)
        (ap (λ (xs : List Try). try x cap n at ∷ xs) ih)

    parted_past : is_block (flush_left x cap at) ≡ true → Parted (n + lines_of (flush_left x cap at)) (past_lines (lines_of (flush_left x cap at)) x at) → Parted n at
    parted_past e ih =
        let k = lines_of (flush_left x cap at) in
        let b = block_within x cap at h in
        let z : n + length (lines (drop at x)) ≡ n + k + length (lines (drop (past_lines k x at) x)) = omega (arith, b, lines_left k x at b) in
        rw (tries_past (x ++ y) cap n at all (ap is_block (flush_front at h) ∙ e), tries_past x cap n at h e, same, flush_front at h, past_front k at b, z)
        (ap (λ (xs : List Try). try x cap n at ∷ xs) ih)

  parted : (fuel n at : ℕ) → length x ≤ at + fuel → at ≤ length x → Parted n at
  parted zero n at h b = parted_end n at (omega arith)
  parted (suc fuel) n at h b = go (ltb at (length x)) refl (is_block (flush_left x cap at)) refl (parted fuel)
    where
      go : (p : Bool) → ltb at (length x) ≡ p → (q : Bool) → is_block (flush_left x cap at) ≡ q → ((m k : ℕ) → length x ≤ k + fuel → k ≤ length x → Parted m k) → Parted n at
      go false p q e ih = parted_end n at (omega (arith, ltb-false at (length x) p))
      go true p false e ih =
          let l = ltb-true at (length x) p in
          parted_on n at l e (ih (suc n) (line_from x at).next (omega (arith, h, next_beyond x at l)) (next_le x at l))
      go true p true e ih =
          let l = ltb-true at (length x) p in
          let k = lines_of (flush_left x cap at) in
          parted_past n at l e (ih (n + k) (past_lines k x at) (omega (arith, h, block_bytes x cap at l, some_lines x at cap e)) (past_in k x at b))

-- ---- the part behind

module _ (x y : List ℕ) (cap d : ℕ) where
  pub flush-behind : (at : ℕ) → flush_left (x ++ y) cap (length x + at) ≡ flush_left y cap at
  flush-behind at = rw (found_in (x ++ y) cap (length x + at), found_in y cap at, drop-behind x y at)

  past_behind : (k at : ℕ) → past_lines k (x ++ y) (length x + at) ≡ length x + past_lines k y at
  unfolding past_lines
  past_behind zero at = refl
  past_behind (suc k) at = rw (end_behind x y at) (past_behind k (line_from y at).next)

  abbrev Behind : ℕ → ℕ → Type 0
  Behind n at = tries_at (x ++ y) cap (d + n) (length x + at) ≡ map (farther d (length x)) (tries_at y cap n at)

  behind_end : (n at : ℕ) → length y ≤ at → Behind n at
  behind_end n at h = rw (tries_end y cap n at h, tries_end (x ++ y) cap (d + n) (length x + at) (omega (arith, length-append x y)))

  behind : (fuel n at : ℕ) → length y ≤ at + fuel → Behind n at
  behind zero n at h = behind_end n at (omega arith)
  behind (suc fuel) n at h = go (ltb at (length y)) refl (is_block (flush_left y cap at)) refl (behind fuel)
    where
      go : (p : Bool) → ltb at (length y) ≡ p → (q : Bool) → is_block (flush_left y cap at) ≡ q → ((m k : ℕ) → length y ≤ k + fuel → Behind m k) → Behind n at
      go false p q e ih = behind_end n at (ltb-false at (length y) p)
      go true p false e ih =
          let l = ltb-true at (length y) p in
          let a : length x + at < length (x ++ y) = omega (arith, length-append x y) in
          let z : suc (d + n) ≡ d + suc n = omega arith in
          rw (tries_on (x ++ y) cap (d + n) (length x + at) a (ap is_block (flush-behind at) ∙ e), tries_on y cap n at l e, flush-behind at, end_behind x y at, z)
          (ap (λ (xs : List Try). farther d (length x) (try y cap n at) ∷ xs) (ih (suc n) (line_from y at).next (omega (arith, h, next_beyond y at l))))
      go true p true e ih =
          let l = ltb-true at (length y) p in
          let k = lines_of (flush_left y cap at) in
          let a : length x + at < length (x ++ y) = omega (arith, length-append x y) in
          let z : d + n + k ≡ d + (n + k) = omega arith in
          rw (tries_past (x ++ y) cap (d + n) (length x + at) a (ap is_block (flush-behind at) ∙ e), tries_past y cap n at l e, flush-behind at, past_behind k at, z)
          (ap (λ (xs : List Try). farther d (length x) (try y cap n at) ∷ xs) (ih (n + k) (past_lines k y at) (omega (arith, h, block_bytes y cap at l, some_lines y at cap e))))

-- ---- the theorem

pub split : (x y : List ℕ) → is_whole x ≡ true → Flat (lines y) → (cap n : ℕ)
    → tries_at (x ++ y) cap n 0 ≡ tries_at x cap n 0 ++ map (farther (length (lines x)) (length x)) (tries_at y cap n 0)
split x y w f cap n =
    let z : n + length (lines x) ≡ length (lines x) + n = omega arith in
    parted x y w f cap (length x) n 0 (omega arith) zero-le
    ∙ ap (λ (xs : List Try). tries_at x cap n 0 ++ xs) (rw z (rw (add-zero (length x)) at (behind x y cap (length (lines x)) (length y) n 0 (omega arith))))
