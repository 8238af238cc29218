-- One place of two reports, and the loop over the places.
-- Assumes nothing.
use Rattle.std.specs.Prelude.{Err, Ok}
use mathlib.Core.Path.{◌≡◌, refl, sym, ◌∙◌, ap}
use mathlib.Core.Bool.{Bool, true, false, cond, ◌||◌}
use mathlib.Core.List.{List, [], ◌∷◌, ◌++◌, append_assoc, append-nil}
use Prim.Native.Nat.{ℕ, zero, suc, ◌+◌, ◌-◌, ◌≤◌, ◌<◌}
use native.Mathlib.Numerals.{add-one}
use native.Mathlib.Omega.{arith}
use borrow.Author.Tests.{lt-ltb, le-ltb, ltb-true, ltb-false, eq-eqb, ne_eqb}
use lib.Dec.{eqb, ltb}
use lib.ListN.{length, get_or, drop, take, set, length-set, drop_of_length-le}
use lib.Seq.{drop-cons, take-suc-set, take_all}
use Rattle.sheet_totals.specs.Totals.{total_places, longest_place, max_total, larger, added_at, added_from, numbers_added, overflows, added_by, add_totals, added_paper, add_order}
use Rattle.sheet_totals.specs.declared.Totals.{Totals}
use Rattle.base_refusals.specs.Numbers.{refused_paper, passed_paper}
use Rattle.base_refusals.specs.Orders.{in_order, on_paper}
use Rattle.base_refusals.proofs.Said.{said}
use Rattle.base_refusals.specs.declared.Refusal.TheVariants.{TotalTooLarge}
use Rattle.sheet_totals.specs.declared.Added.{Added}

-- ---- one place

pub at_longest : {i : ℕ} (x y : ℕ) → i ≡ longest_place → added_at i x y ≡ larger x y
unfolding added_at
at_longest {i} x y e = rw (eq-eqb i longest_place e)

pub at_other : {i : ℕ} (x y : ℕ) → (i ≡ longest_place → ⊥) → added_at i x y ≡ x + y
unfolding added_at
at_other {i} x y n = rw (ne_eqb i longest_place n)

pub larger_right : (x y : ℕ) → x < y → larger x y ≡ y
unfolding larger
larger_right x y h = rw (lt-ltb x y h)

pub larger_left : (x y : ℕ) → y ≤ x → larger x y ≡ x
unfolding larger
larger_left x y h = rw (le-ltb x y h)

-- the larger is within what both are within
pub larger_le : (x y m : ℕ) → x ≤ m → y ≤ m → larger x y ≤ m
unfolding larger
larger_le x y m h k = go (ltb x y)
  where
    go : (b : Bool) → cond b y x ≤ m
    go true = k
    go false = h

pub full_longest : {i : ℕ} (x y : ℕ) → i ≡ longest_place → x ≤ max_total → y ≤ max_total → false ≡ ltb max_total (added_at i x y)
full_longest x y e h k = rw (at_longest x y e) (sym (le-ltb max_total (larger x y) (larger_le x y max_total h k)))

-- the test of the code, which no sum leaves the 64 bits in
pub full_other : {i : ℕ} (x y : ℕ) → (i ≡ longest_place → ⊥) → x ≤ max_total → ltb (max_total - x) y ≡ ltb max_total (added_at i x y)
full_other x y n h = rw (at_other x y n) (go (ltb (max_total - x) y) refl)
  where
    go : (b : Bool) → ltb (max_total - x) y ≡ b → b ≡ ltb max_total (x + y)
    go true e = sym (lt-ltb max_total (x + y) (omega (arith, ltb-true (max_total - x) y e)))
    go false e = sym (le-ltb max_total (x + y) (omega (arith, ltb-false (max_total - x) y e)))

-- what fits
pub fits_other : {i : ℕ} (x y : ℕ) → (i ≡ longest_place → ⊥) → ltb max_total (added_at i x y) ≡ false → x + y ≤ max_total
fits_other x y n e = ltb-false max_total (x + y) (rw (at_other x y n) at e)

-- ---- the loop: i places are added

pub added_cons : (i : ℕ) (xs ys : List ℕ) (j : ℕ) → i < length xs → i < length ys
    → added_from j (drop i xs) (drop i ys) ≡ added_at j (get_or xs i 0) (get_or ys i 0) ∷ added_from (suc j) (drop (suc i) xs) (drop (suc i) ys)
unfolding added_from
added_cons i xs ys j h k = rw (drop-cons xs i 0 h, drop-cons ys i 0 k)

pub record Adds (xs ys ts : List ℕ) (i : ℕ) : Type 0 where
  pub at_most_lem : i ≤ total_places
  pub long : length ts ≡ total_places
  pub left : length xs ≡ total_places
  pub right : length ys ≡ total_places
  pub rest : take i ts ++ added_from i (drop i xs) (drop i ys) ≡ numbers_added xs ys
  pub full : overflows (added_from i (drop i xs) (drop i ys)) ≡ overflows (numbers_added xs ys)

pub adds_start : (xs ys : List ℕ) → length xs ≡ total_places → length ys ≡ total_places → Adds xs ys xs 0
unfolding numbers_added
adds_start xs ys h k = record { at_most_lem = omega arith; long = h; left = h; right = k; rest = refl; full = refl }

pub adds_go : {xs ys ts : List ℕ} {i : ℕ} → Adds xs ys ts i → i < total_places
    → ltb max_total (added_at i (get_or xs i 0) (get_or ys i 0)) ≡ false
    → Adds xs ys (set ts i (added_at i (get_or xs i 0) (get_or ys i 0))) (i + 1)
unfolding overflows
adds_go {xs} {ys} {ts} {i} inv h e =
    let v : ℕ = added_at i (get_or xs i 0) (get_or ys i 0) in
    let c = added_cons i xs ys i (omega (arith, inv.left)) (omega (arith, inv.right)) in
    record {
      at_most_lem = omega arith;
      long = length-set ts i v ∙ inv.long;
      left = inv.left;
      right = inv.right;
      rest =
          rw (add-one, take-suc-set ts i v (omega (arith, inv.long)), append_assoc)
          (rw c at inv.rest);
      full = rw add-one (rw (c, e) at inv.full);
    }

-- a number that doesn't fit: the answer is the first report
pub adds_stop : {a b : Totals} {ts : List ℕ} {i : ℕ} → Adds a.numbers b.numbers ts i → i < total_places
    → ltb max_total (added_at i (get_or a.numbers i 0) (get_or b.numbers i 0)) ≡ true
    → record { outcome = Err TotalTooLarge; totals = a } ≡ add_totals a b
unfolding add_totals overflows
adds_stop {a} {b} {ts} {i} inv h e =
    let c = added_cons i a.numbers b.numbers i (omega (arith, inv.left)) (omega (arith, inv.right)) in
    rw (← inv.full, c, e)

pub adds_end : {a b t : Totals} {i : ℕ} → Adds a.numbers b.numbers t.numbers i → total_places ≤ i
    → record { outcome = Ok tt; totals = t } ≡ add_totals a b
unfolding add_totals overflows added_from
adds_end {a} {b} {t} {i} inv h =
    let d : drop i a.numbers ≡ [] = drop_of_length-le a.numbers {i = i} (omega (arith, inv.left)) in
    let n : false ≡ overflows (numbers_added a.numbers b.numbers) = rw d at inv.full in
    let k : take i t.numbers ≡ t.numbers = take_all i t.numbers (omega (arith, inv.long)) in
    let r : t.numbers ≡ numbers_added a.numbers b.numbers = rw (d, append-nil, k) at inv.rest in
    rw (← n, ← r)

-- ---- on paper

pub added_paper_lem : (a b : Totals) → added_paper (add_totals a b) ≡ on_paper (add_order a b) (numbers_added a.numbers b.numbers)
unfolding add_totals add_order on_paper in_order
added_paper_lem a b = go (overflows (numbers_added a.numbers b.numbers))
  where
    go : (x : Bool) → added_paper (added_by x a (numbers_added a.numbers b.numbers)) ≡ cond x (refused_paper TotalTooLarge) (passed_paper (numbers_added a.numbers b.numbers))
    go true = refl
    go false = refl

-- the whole promise, from the equation of the answer
pub added-said : (a b : Totals) {r : Added} → r ≡ add_totals a b → record { value : r ≡ add_totals a b; result_value : added_paper r ≡ on_paper (add_order a b) (numbers_added a.numbers b.numbers) }
added-said a b = said added_paper (added_paper_lem a b)
