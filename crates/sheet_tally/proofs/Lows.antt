-- Numbers that stay far below 64 bits.
-- Assumes nothing.
use mathlib.Core.Path.{◌≡◌, refl, sym, ◌∙◌, ap}
use mathlib.Core.Bool.{Bool, true, false, cond}
use mathlib.Core.List.{List, [], ◌∷◌}
use Prim.Native.Nat.{ℕ, zero, suc, ◌+◌, ◌<◌, ◌≤◌}
use native.Mathlib.Omega.{arith}
use borrow.Author.Tests.{eqb-true, eqb-false, ltb-true, ltb-false}
use lib.Dec.{eqb, ltb}
use lib.ListN.{length, get_or, set, replicate, length-set}
use lib.Seq.{get_or-set_same, get_or-set_other, set_out}
use Rattle.base_refusals.specs.Numbers.{max_text}
use Rattle.sheet_totals.specs.Totals.{total_places, max_total}
use Rattle.sheet_totals.specs.declared.Totals.{Totals}
use Rattle.sheet_tally.specs.Inner.{Low, add_at, raised_to, with_run, with_printed, with_refused}
use Rattle.sheet_tally.proofs.Counting.{one_le}

-- a number is set, and none is above m
set_low : {k : ℕ} {ns : List ℕ} → Low k ns → (i v m : ℕ) → v ≤ m → k ≤ m → Low m (set ns i v)
set_low {k} {ns} h i v m p q = record { long = length-set ns i v ∙ h.long; low = λ j. go j (eqb j i) refl }
  where
    in_range : (j : ℕ) → j ≡ i → (b : Bool) → ltb i (length ns) ≡ b → get_or (set ns i v) j 0 ≤ m
    in_range j e true l = rw e (rw (get_or-set_same ns i v 0 (ltb-true i (length ns) l)) p)
    in_range j e false l = rw (set_out ns i v (ltb-false i (length ns) l)) (omega (arith, h.low j, q))

    go : (j : ℕ) (b : Bool) → eqb j i ≡ b → get_or (set ns i v) j 0 ≤ m
    go j true e = in_range j (eqb-true j i e) (ltb i (length ns)) refl
    go j false e = rw (get_or-set_other ns i j v 0 (eqb-false j i e)) (omega (arith, h.low j, q))

module _ {k : ℕ} {ns : List ℕ} (h : Low k ns) where
  -- there is room for one more
  pub low_room : (i by : ℕ) → i < total_places → k + by ≤ max_total → (i < total_places) × (get_or ns i 0 + by ≤ max_total)
  low_room i by p q = (p, omega (arith, q, h.low i))

  pub low_add : (i by d : ℕ) → by ≤ d → Low (k + d) (add_at i by ns)
  unfolding add_at
  low_add i by d p = set_low h i (get_or ns i 0 + by) (k + d) (omega (arith, p, h.low i)) (omega arith)

  pub low_raise : (v m : ℕ) → v ≤ m → k ≤ m → Low m (raised_to v ns)
  unfolding raised_to
  low_raise v m p q = go (ltb (get_or ns 12 0) v)
    where
      go : (b : Bool) → Low m (cond b (set ns 12 v) ns)
      go true = set_low h 12 v m p q
      go false = record { long = h.long; low = λ j. omega (arith, h.low j, q) }

  pub low_more : (m : ℕ) → k ≤ m → Low m ns
  low_more m q = record { long = h.long; low = λ j. omega (arith, h.low j, q) }

  -- the same of totals that are made of these
  pub low_added : {r : Totals} (i by d : ℕ) → by ≤ d → r ≡ record { numbers = add_at i by ns } → Low (k + d) r.numbers
  low_added i by d p e = rw e (low_add i by d p)

module _ {k : ℕ} {ns : List ℕ} (h : Low k ns) where
  pub low_run : {r : Totals} (joined lookahead d : ℕ) → joined ≤ d → lookahead ≤ d → r ≡ record { numbers = with_run joined lookahead ns } → Low (k + d) r.numbers
  unfolding with_run add_at
  low_run joined lookahead d p q e = rw e (set_again (set_low h 10 (get_or ns 10 0 + joined) (k + d) (omega (arith, p, h.low 10)) (omega arith)))
    where
      other : get_or (set ns 10 (get_or ns 10 0 + joined)) 11 0 ≡ get_or ns 11 0
      other = get_or-set_other ns 10 11 (get_or ns 10 0 + joined) 0 (λ (z : 11 ≡ 10). absurd (omega (arith, z)))

      set_again : Low (k + d) (set ns 10 (get_or ns 10 0 + joined)) → Low (k + d) (set (set ns 10 (get_or ns 10 0 + joined)) 11 (get_or (set ns 10 (get_or ns 10 0 + joined)) 11 0 + lookahead))
      set_again l = set_low l 11 (get_or (set ns 10 (get_or ns 10 0 + joined)) 11 0 + lookahead) (k + d) (omega (arith, other, q, h.low 11)) (omega arith)

  pub low_printed : {r : Totals} (n classes keys : ℕ) → classes ≤ 255 → keys ≤ 255 → r ≡ record { numbers = with_printed n classes keys ns } → Low (k + (max_text + n)) r.numbers
  unfolding with_printed
  low_printed n classes keys p q e =
      rw e (low_raise (low_add (low_add (low_add (low_add h 1 1 1 (omega arith)) 2 (cond (ltb 1 n) 1 0) 1 (one_le n refl)) 8 classes 255 p) 9 keys 255 q) n (k + (max_text + n)) (omega arith) (omega arith))

  pub low_refused : {r : Totals} (n : ℕ) → r ≡ record { numbers = with_refused n ns } → Low (k + 1) r.numbers
  unfolding with_refused
  low_refused n e = rw e (go (eqb n 6) (eqb n 7) (eqb n 10))
    where
      go : (x y z : Bool) → Low (k + 1) (cond x (add_at 5 1 ns) (cond y (add_at 6 1 ns) (cond z (add_at 7 1 ns) ns)))
      go true y z = low_add h 5 1 1 (omega arith)
      go false true z = low_add h 6 1 1 (omega arith)
      go false false true = low_add h 7 1 1 (omega arith)
      go false false false = low_more h (k + 1) (omega arith)

-- one sheet, of which nothing is counted yet
zeros : (n i : ℕ) → get_or (replicate n 0) i 0 ≤ 0
zeros zero i = omega arith
zeros (suc n) zero = omega arith
zeros (suc n) (suc i) = zeros n i

pub low_start : Low 1 (1 ∷ 0 ∷ 0 ∷ 0 ∷ 0 ∷ 0 ∷ 0 ∷ 0 ∷ 0 ∷ 0 ∷ 0 ∷ 0 ∷ 0 ∷ [])
low_start = set_low {ns = replicate 13 0} (record { long = refl; low = zeros 13 }) 0 1 1 (omega arith) (omega arith)
