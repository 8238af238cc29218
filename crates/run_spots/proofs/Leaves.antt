-- A line's front, and comments.
-- Assumes nothing.
use mathlib.Core.Path.{◌≡◌, refl, sym, ◌∙◌, ap}
use mathlib.Core.Bool.{Bool, true, false, ◌&&◌}
use mathlib.Core.List.{List, [], ◌∷◌}
use Prim.Native.Nat.{ℕ, zero, suc, ◌+◌, ◌-◌, ◌<◌, ◌≤◌}
use native.Mathlib.Numerals.{add-one}
use native.Mathlib.Omega.{arith}
use borrow.Author.Tests.{eq-eqb, ne_eqb}
use lib.Dec.{eqb}
use lib.ListN.{length, get_or, drop, drop_of_length-le, length-drop}
use lib.Seq.{drop-cons}
use Rattle.std.specs.List.{list_any, range_with_len}
use Rattle.base_lists.specs.Lists.{run, begins_pair}
use Rattle.base_bytes.specs.Bytes.{is_space}
use Rattle.text_lines.specs.Trim.{trim_start}
use Rattle.text_lines.proofs.Trim.{trim_start_lem}
use Rattle.block_payloads.specs.Payloads.{begins_open, opens}
use Rattle.run_spots.specs.Spots.{closes_comment}

-- ---- the front

module _ (l : List ℕ) {from : ℕ} (e : from ≡ run is_space l) where
  pub front : drop from l ≡ trim_start l
  front = rw e (sym (trim_start_lem l))

  pub opens_none : length l ≤ from → false ≡ opens l
  opens_none h = ap begins_open (sym (drop_of_length-le l h) ∙ front)

  pub opens_some : from < length l → eqb (get_or l from 0) 123 ≡ opens l
  opens_some h = ap begins_open (sym (drop-cons l from 0 h) ∙ front)

-- ---- two bytes

pair_short : (b c : ℕ) (s : List ℕ) → length s < 2 → false ≡ begins_pair b c s
pair_short b c [] h = refl
pair_short b c (x ∷ []) h = go (eqb x b)
  where
    go : (y : Bool) → false ≡ (y && false)
    go true = refl
    go false = refl
pair_short b c (x ∷ y ∷ s) h = absurd (omega arith)

module _ (s : List ℕ) (i b c : ℕ) where
  pub pair_few : length s - i < 2 → false ≡ begins_pair b c (drop i s)
  pair_few h = pair_short b c (drop i s) (omega (arith, length-drop i s))

  module _ (h : i + 2 ≤ length s) where
    pub pair_both : begins_pair b c (drop i s) ≡ (eqb (get_or s i 0) b && eqb (get_or s (i + 1) 0) c)
    pair_both = rw (add-one i) (ap (begins_pair b c) (drop-cons s i 0 (omega arith) ∙ ap (λ x. get_or s i 0 ∷ x) (drop-cons s (suc i) 0 (omega arith))))

    pub pair_not : (get_or s i 0 ≡ b → ⊥) → false ≡ begins_pair b c (drop i s)
    pair_not n = rw (pair_both, ne_eqb (get_or s i 0) b n)

    pub pair_is : get_or s i 0 ≡ b → eqb (get_or s (i + 1) 0) c ≡ begins_pair b c (drop i s)
    pair_is q = rw (pair_both, eq-eqb (get_or s i 0) b q)

-- `closes_comment` asks each place from k on
pub closes_any : (s : List ℕ) (n k : ℕ) → k + n ≡ length s → list_any (λ i. begins_pair 37 125 (drop i s)) (range_with_len k n) ≡ closes_comment (drop k s)
unfolding closes_comment
closes_any s zero k h = rw (drop_of_length-le s {i = k} (omega arith))
closes_any s (suc n) k h =
    let l : k < length s = omega arith in
    rw (closes_any s n (k + 1) (omega arith), add-one, drop-cons s k 0 l)
