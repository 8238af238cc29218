-- Reports that add up: in any order, with nothing from the empty one, and refused exactly where one of the twelve sums is too large.
-- Assumes nothing.
use Rattle.std.specs.Prelude.{Err, Ok, Result}
use mathlib.Core.Path.{◌≡◌, refl, sym, ◌∙◌, ap}
use mathlib.Core.Bool.{Bool, true, false, cond, ◌||◌}
use mathlib.Core.List.{List, [], ◌∷◌}
use Prim.Native.Nat.{ℕ, zero, suc, ◌+◌, ◌≤◌, ◌<◌}
use native.Mathlib.Omega.{arith}
use borrow.Author.Tests.{lt-ltb, le-ltb, ltb-true, ltb-false, eqb-true, eqb-false}
use lib.Dec.{eqb, ltb}
use lib.ListN.{length, get_or, replicate}
use Rattle.base_lists.proofs.More.{contra}
use Rattle.sheet_totals.specs.Totals.{total_places, longest_place, max_total, empty_totals, larger, added_at, added_from, numbers_added, overflows, added_by, add_totals, IsReport, TooLarge}
use Rattle.sheet_totals.specs.declared.Totals.{Totals}
use Rattle.base_refusals.specs.Numbers.{passed}
use Rattle.base_refusals.specs.declared.Refusal.{Refusal}
use Rattle.base_refusals.specs.declared.Refusal.TheVariants.{TotalTooLarge}
use Rattle.sheet_totals.specs.declared.Added.{Added}
use Rattle.sheet_totals.proofs.Adding.{at_longest, at_other, larger_right, larger_left, larger_le}

-- ---- the larger

pub larger_ge_left : (x y : ℕ) → x ≤ larger x y
unfolding larger
larger_ge_left x y = go (ltb x y) refl
  where
    go : (b : Bool) → ltb x y ≡ b → x ≤ cond b y x
    go true e = omega (arith, ltb-true x y e)
    go false e = omega arith

pub larger_comm : (x y : ℕ) → larger x y ≡ larger y x
unfolding larger
larger_comm x y = go (ltb x y) refl (ltb y x) refl
  where
    go : (b : Bool) → ltb x y ≡ b → (c : Bool) → ltb y x ≡ c → cond b y x ≡ cond c x y
    go true e true f = absurd (omega (arith, ltb-true x y e, ltb-true y x f))
    go true e false f = refl
    go false e true f = refl
    go false e false f = omega (arith, ltb-false x y e, ltb-false y x f)

pub larger_assoc : (x y z : ℕ) → larger (larger x y) z ≡ larger x (larger y z)
larger_assoc x y z = go (ltb x y) refl (ltb y z) refl
  where
    go : (b : Bool) → ltb x y ≡ b → (c : Bool) → ltb y z ≡ c → larger (larger x y) z ≡ larger x (larger y z)
    go true e true f =
        let p = ltb-true x y e in
        let q = ltb-true y z f in
        rw (larger_right x y p, larger_right y z q) (sym (larger_right x z (omega arith)))
    go true e false f = rw (larger_right x y (ltb-true x y e), larger_left y z (ltb-false y z f)) (sym (larger_right x y (ltb-true x y e)))
    go false e true f = rw (larger_left x y (ltb-false x y e), larger_right y z (ltb-true y z f))
    go false e false f =
        let p = ltb-false x y e in
        let q = ltb-false y z f in
        rw (larger_left x y p, larger_left y z q) (larger_left x z (omega arith) ∙ sym (larger_left x y p))

-- ---- one place

at_comm : (i x y : ℕ) → added_at i x y ≡ added_at i y x
unfolding added_at
at_comm i x y = go (eqb i longest_place)
  where
    s : x + y ≡ y + x
    s = omega arith

    go : (b : Bool) → cond b (larger x y) (x + y) ≡ cond b (larger y x) (y + x)
    go true = larger_comm x y
    go false = s

at_assoc : (i x y z : ℕ) → added_at i (added_at i x y) z ≡ added_at i x (added_at i y z)
unfolding added_at
at_assoc i x y z = go (eqb i longest_place)
  where
    s : x + y + z ≡ x + (y + z)
    s = omega arith

    go : (b : Bool)
        → cond b (larger (cond b (larger x y) (x + y)) z) (cond b (larger x y) (x + y) + z)
        ≡ cond b (larger x (cond b (larger y z) (y + z))) (x + cond b (larger y z) (y + z))
    go true = larger_assoc x y z
    go false = s

at_zero : (i x : ℕ) → added_at i x 0 ≡ x
unfolding added_at
at_zero i x = go (eqb i longest_place)
  where
    s : x + 0 ≡ x
    s = omega arith

    go : (b : Bool) → cond b (larger x 0) (x + 0) ≡ x
    go true = larger_left x 0 (omega arith)
    go false = s

-- no number gets smaller
at_ge : (i x y : ℕ) → x ≤ added_at i x y
unfolding added_at
at_ge i x y = go (eqb i longest_place)
  where
    go : (b : Bool) → x ≤ cond b (larger x y) (x + y)
    go true = larger_ge_left x y
    go false = omega arith

-- ---- all places

from_comm : (i : ℕ) (xs ys : List ℕ) → added_from i xs ys ≡ added_from i ys xs
unfolding added_from
from_comm i [] [] = refl
from_comm i [] (y ∷ ys) = refl
from_comm i (x ∷ xs) [] = refl
from_comm i (x ∷ xs) (y ∷ ys) = rw (at_comm i x y, from_comm (suc i) xs ys)

from_assoc : (i : ℕ) (xs ys zs : List ℕ) → added_from i (added_from i xs ys) zs ≡ added_from i xs (added_from i ys zs)
unfolding added_from
from_assoc i [] ys zs = refl
from_assoc i (x ∷ xs) [] zs = refl
from_assoc i (x ∷ xs) (y ∷ ys) [] = refl
from_assoc i (x ∷ xs) (y ∷ ys) (z ∷ zs) = rw (at_assoc i x y z, from_assoc (suc i) xs ys zs)

from_empty : (i : ℕ) (xs : List ℕ) → added_from i xs (replicate (length xs) 0) ≡ xs
unfolding added_from
from_empty i [] = refl
from_empty i (x ∷ xs) = rw (at_zero i x, from_empty (suc i) xs)

pub from_long : (i : ℕ) (xs ys : List ℕ) → length xs ≡ length ys → length (added_from i xs ys) ≡ length xs
unfolding added_from
from_long i [] ys e = refl
from_long i (x ∷ xs) [] e = absurd (omega arith)
from_long i (x ∷ xs) (y ∷ ys) e = ap suc (from_long (suc i) xs ys (omega arith))

pub split_or : (a b : Bool) → (a || b) ≡ false → (a ≡ false) × (b ≡ false)
split_or true b e = absurd (contra true refl e)
split_or false b e = (refl, e)

-- what fits with more added fits without
from_fits : (i : ℕ) (xs ys : List ℕ) → length xs ≡ length ys → overflows (added_from i xs ys) ≡ false → overflows xs ≡ false
unfolding added_from overflows
from_fits i [] ys l e = refl
from_fits i (x ∷ xs) [] l e = absurd (omega arith)
from_fits i (x ∷ xs) (y ∷ ys) l e =
    let z = split_or (ltb max_total (added_at i x y)) (overflows (added_from (suc i) xs ys)) e in
    let h : x ≤ max_total = omega (arith, at_ge i x y, ltb-false max_total (added_at i x y) z.0) in
    rw (le-ltb max_total x h) (from_fits (suc i) xs ys (omega arith) z.1)

-- ======== the theorems

-- the order doesn't matter
pub added_comm : (xs ys : List ℕ) → numbers_added xs ys ≡ numbers_added ys xs
unfolding numbers_added
added_comm xs ys = from_comm 0 xs ys

pub added_assoc : (xs ys zs : List ℕ) → numbers_added (numbers_added xs ys) zs ≡ numbers_added xs (numbers_added ys zs)
unfolding numbers_added
added_assoc xs ys zs = from_assoc 0 xs ys zs

-- the empty report adds nothing
pub added_empty : (xs : List ℕ) → length xs ≡ total_places → numbers_added xs empty_totals.numbers ≡ xs
unfolding numbers_added
added_empty xs e = rw e at (from_empty 0 xs)

pub added_long : (xs ys : List ℕ) → length xs ≡ total_places → length ys ≡ total_places → length (numbers_added xs ys) ≡ total_places
unfolding numbers_added
added_long xs ys h k = from_long 0 xs ys (h ∙ sym k) ∙ h

-- where the three together fit, so do the first two
pub fits_without : (xs ys : List ℕ) → length xs ≡ total_places → length ys ≡ total_places → overflows (numbers_added xs ys) ≡ false → overflows xs ≡ false
unfolding numbers_added
fits_without xs ys h k e = from_fits 0 xs ys (h ∙ sym k) e

-- ---- of the answers

-- an answer is refused or it is the sum
pub add_fits : (a b : Totals) → overflows (numbers_added a.numbers b.numbers) ≡ false
    → add_totals a b ≡ record { outcome = Ok tt; totals = record { numbers = numbers_added a.numbers b.numbers } }
unfolding add_totals
add_fits a b e = rw e

pub add_full : (a b : Totals) → overflows (numbers_added a.numbers b.numbers) ≡ true → add_totals a b ≡ record { outcome = Err TotalTooLarge; totals = a }
unfolding add_totals
add_full a b e = rw e

is_full : Result (Unit {0}) Refusal → Bool
is_full (Err r) = true
is_full (Ok _) = false

told_full : (a b : Totals) → is_full (add_totals a b).outcome ≡ overflows (numbers_added a.numbers b.numbers)
unfolding add_totals is_full
told_full a b = go (overflows (numbers_added a.numbers b.numbers))
  where
    go : (x : Bool) → is_full (added_by x a (numbers_added a.numbers b.numbers)).outcome ≡ x
    go true = refl
    go false = refl

pub full_fits : {r : Refusal} → Err r ≡ passed → ⊥
unfolding is_full
full_fits e = contra true refl (ap is_full e)

pub fits_is : (a b : Totals) → (add_totals a b).outcome ≡ Ok tt → overflows (numbers_added a.numbers b.numbers) ≡ false
unfolding is_full
fits_is a b e = sym (told_full a b) ∙ ap is_full e

pub full_is : (a b : Totals) → (add_totals a b).outcome ≡ Err TotalTooLarge → overflows (numbers_added a.numbers b.numbers) ≡ true
unfolding is_full
full_is a b e = sym (told_full a b) ∙ ap is_full e

-- the neutral element, on both sides
pub add_empty_right : (a : Totals) → IsReport a.numbers → add_totals a empty_totals ≡ record { outcome = Ok tt; totals = a }
add_empty_right a r =
    let e = added_empty a.numbers r.long in
    add_fits a empty_totals (rw e r.fits) ∙ rw e

pub add_empty_left : (a : Totals) → IsReport a.numbers → add_totals empty_totals a ≡ record { outcome = Ok tt; totals = a }
add_empty_left a r =
    let e = added_comm empty_totals.numbers a.numbers ∙ added_empty a.numbers r.long in
    add_fits empty_totals a (rw e r.fits) ∙ rw e

-- associative where nothing is refused: if one grouping isn't refused, the other isn't, and the two are one report
pub add_assoc : (a b c : Totals) → length a.numbers ≡ total_places → length b.numbers ≡ total_places → length c.numbers ≡ total_places
    → (add_totals a b).outcome ≡ Ok tt → (add_totals (add_totals a b).totals c).outcome ≡ Ok tt
    → ((add_totals b c).outcome ≡ Ok tt) × (add_totals a (add_totals b c).totals ≡ add_totals (add_totals a b).totals c)
add_assoc a b c la lb lc e f =
    let ab : (add_totals a b).totals ≡ record { numbers = numbers_added a.numbers b.numbers } = ap (λ (r : Added). r.totals) (add_fits a b (fits_is a b e)) in
    let g : overflows (numbers_added (numbers_added a.numbers b.numbers) c.numbers) ≡ false = rw ab at (fits_is (add_totals a b).totals c f) in
    let h : overflows (numbers_added a.numbers (numbers_added b.numbers c.numbers)) ≡ false = rw (added_assoc a.numbers b.numbers c.numbers) at g in
    let k : overflows (numbers_added (numbers_added b.numbers c.numbers) a.numbers) ≡ false = rw (added_comm a.numbers (numbers_added b.numbers c.numbers)) at h in
    let m : overflows (numbers_added b.numbers c.numbers) ≡ false = fits_without (numbers_added b.numbers c.numbers) a.numbers (added_long b.numbers c.numbers lb lc) la k in
    let bc = add_fits b c m in (
      ap (λ (r : Added). r.outcome) bc,
      ap (λ (r : Added). add_totals a r.totals) bc
          ∙ (add_fits a (record { numbers = numbers_added b.numbers c.numbers }) h
          ∙ (ap (λ (l : List ℕ). record { outcome = Ok tt; totals = record { numbers = l } }) (sym (added_assoc a.numbers b.numbers c.numbers))
          ∙ (sym (add_fits (record { numbers = numbers_added a.numbers b.numbers }) c g) ∙ ap (λ (t : Totals). add_totals t c) (sym ab)))),
    )

-- ---- "17 a total would not fit": exactly where one of the twelve sums is above the size

pub get_d_numbers_added : (i k : ℕ) (xs ys : List ℕ) → k < length xs → k < length ys → get_or (added_from i xs ys) k 0 ≡ added_at (i + k) (get_or xs k 0) (get_or ys k 0)
unfolding added_from
get_d_numbers_added i k [] ys h l = absurd (omega arith)
get_d_numbers_added i k (x ∷ xs) [] h l = absurd (omega arith)
get_d_numbers_added i zero (x ∷ xs) (y ∷ ys) h l = let e : i + 0 ≡ i = omega arith in rw e
get_d_numbers_added i (suc k) (x ∷ xs) (y ∷ ys) h l =
    let e : suc i + k ≡ i + suc k = omega arith in
    rw (← e) (get_d_numbers_added (suc i) k xs ys (omega arith) (omega arith))

pub added_at_lem : (k : ℕ) (xs ys : List ℕ) → length xs ≡ total_places → length ys ≡ total_places → k < total_places → get_or (numbers_added xs ys) k 0 ≡ added_at k (get_or xs k 0) (get_or ys k 0)
unfolding numbers_added
added_at_lem k xs ys h l m =
    let e : 0 + k ≡ k = omega arith in
    rw e at (get_d_numbers_added 0 k xs ys (omega arith) (omega arith))

over_at : (xs : List ℕ) → overflows xs ≡ true → (k : ℕ) × ((k < length xs) × (max_total < get_or xs k 0))
unfolding overflows
over_at [] e = contra false e refl
over_at (x ∷ xs) e = go (ltb max_total x) refl e (over_at xs)
  where
    go : (b : Bool) → ltb max_total x ≡ b → (b || overflows xs) ≡ true
        → (overflows xs ≡ true → (k : ℕ) × ((k < length xs) × (max_total < get_or xs k 0)))
        → (k : ℕ) × ((k < length (x ∷ xs)) × (max_total < get_or (x ∷ xs) k 0))
    go true q f ih = (0, (omega arith, ltb-true max_total x q))
    go false q f ih = let z = ih f in (suc z.0, (omega (arith, z.1.0), z.1.1))

under_at : (xs : List ℕ) → overflows xs ≡ false → (k : ℕ) → k < length xs → get_or xs k 0 ≤ max_total
unfolding overflows
under_at [] e k h = absurd (omega arith)
under_at (x ∷ xs) e zero h = ltb-false max_total x (split_or (ltb max_total x) (overflows xs) e).0
under_at (x ∷ xs) e (suc k) h = under_at xs (split_or (ltb max_total x) (overflows xs) e).1 k (omega arith)

pub full_too_large : (a b : Totals) → IsReport a.numbers → IsReport b.numbers → (add_totals a b).outcome ≡ Err TotalTooLarge → TooLarge a.numbers b.numbers
full_too_large a b ra rb e =
    let z = over_at (numbers_added a.numbers b.numbers) (full_is a b e) in
    let l : length (numbers_added a.numbers b.numbers) ≡ total_places = added_long a.numbers b.numbers ra.long rb.long in
    let k : ℕ = z.0 in
    let h : k < total_places = omega (arith, z.1.0, l) in
    let m : max_total < added_at k (get_or a.numbers k 0) (get_or b.numbers k 0) = rw (added_at_lem k a.numbers b.numbers ra.long rb.long h) at z.1.1 in
    go (eqb k longest_place) refl h m (under_at a.numbers ra.fits k (omega (arith, ra.long))) (under_at b.numbers rb.fits k (omega (arith, rb.long)))
  where
    go : {k : ℕ} (x : Bool) → eqb k longest_place ≡ x → k < total_places → max_total < added_at k (get_or a.numbers k 0) (get_or b.numbers k 0)
        → get_or a.numbers k 0 ≤ max_total → get_or b.numbers k 0 ≤ max_total → TooLarge a.numbers b.numbers
    go {k} true q h m p s =
        absurd (omega (arith, m, at_longest (get_or a.numbers k 0) (get_or b.numbers k 0) (eqb-true k longest_place q), larger_le (get_or a.numbers k 0) (get_or b.numbers k 0) max_total p s))
    go {k} false q h m p s =
        record { place = k; summed = omega (arith, eqb-false k longest_place q); above = rw (at_other (get_or a.numbers k 0) (get_or b.numbers k 0) (eqb-false k longest_place q)) at m }

pub too_large_full : (a b : Totals) → IsReport a.numbers → IsReport b.numbers → TooLarge a.numbers b.numbers → add_totals a b ≡ record { outcome = Err TotalTooLarge; totals = a }
too_large_full a b ra rb t = go (overflows (numbers_added a.numbers b.numbers)) refl
  where
    k : ℕ
    k = t.place

    h : k < longest_place
    h = t.summed

    go : (x : Bool) → overflows (numbers_added a.numbers b.numbers) ≡ x → add_totals a b ≡ record { outcome = Err TotalTooLarge; totals = a }
    go true e = add_full a b e
    go false e =
        let l : length (numbers_added a.numbers b.numbers) ≡ total_places = added_long a.numbers b.numbers ra.long rb.long in
        let g = added_at_lem k a.numbers b.numbers ra.long rb.long (omega (arith, h)) in
        let o = at_other {i = k} (get_or a.numbers k 0) (get_or b.numbers k 0) (λ q. omega (arith, h)) in
        absurd (omega (arith, t.above, under_at (numbers_added a.numbers b.numbers) e k (omega (arith, h, l)), g, o))
