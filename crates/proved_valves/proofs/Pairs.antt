-- A pair is found exactly where there is one.
-- Assumes nothing.
use Rattle.std.specs.Prelude.{None, Option, Some}
use mathlib.Core.Path.{◌≡◌, refl, sym, ◌∙◌, ap}
use mathlib.Core.Bool.{Bool, true, false, cond, ◌||◌}
use mathlib.Core.List.{List, [], ◌∷◌}
use Prim.Native.Nat.{ℕ, zero, suc, ◌+◌, ◌≤◌, ◌<◌}
use native.Mathlib.Omega.{arith}
use borrow.Author.Tests.{eqb-true, eqb-false, eq-eqb, ltb-true, ltb-false}
use lib.Dec.{eqb, ltb}
use lib.ListN.{length, get_or}
use Rattle.base_lists.proofs.More.{contra, or_left, or_right}
use Rattle.sheet_valves.specs.Tables.{variant_count, wheels, valve_at}
use Rattle.sheet_valves.specs.Pairs.{one_valve, among, repeats, row_of, pair_from, first_pair}
use Rattle.sheet_valves.specs.declared.Table.{Table}
use Rattle.proved_valves.specs.Pairs.{TwoWheels, FirstIs, FirstFound, PairFoundExactly}

-- ---- one of the valves of a list has that of a later one

record Twice (xs : List (Option ℕ)) : Type 0 where
  one : ℕ
  two : ℕ
  valve : ℕ
  before : one < two
  within : two < length xs
  at_one : get_or xs one None ≡ Some valve
  at_two : get_or xs two None ≡ Some valve

record Later (x : Option ℕ) (ys : List (Option ℕ)) : Type 0 where
  two : ℕ
  valve : ℕ
  within : two < length ys
  is : x ≡ Some valve
  at_two : get_or ys two None ≡ Some valve

one_both : (x y : Option ℕ) → one_valve x y ≡ true → (n : ℕ) × ((x ≡ Some n) × (y ≡ Some n))
unfolding one_valve
one_both None y e = contra false e refl
one_both (Some a) None e = contra false e refl
one_both (Some a) (Some b) e = (a, (refl, ap (λ z. Some z) (sym (eqb-true a b e))))

one_of : (n : ℕ) → one_valve (Some n) (Some n) ≡ true
unfolding one_valve
one_of n = eq-eqb n n refl

later : (x : Option ℕ) (ys : List (Option ℕ)) → among x ys ≡ true → Later x ys
unfolding among
later x [] e = contra false e refl
later x (y ∷ ys) e = go (one_valve x y) refl e (later x ys)
  where
    go : (b : Bool) → one_valve x y ≡ b → (b || among x ys) ≡ true → (among x ys ≡ true → Later x ys) → Later x (y ∷ ys)
    go true q f ih = let z = one_both x y q in record { two = 0; valve = z.0; within = omega arith; is = z.1.0; at_two = z.1.1 }
    go false q f ih = let z = ih f in record { two = suc z.two; valve = z.valve; within = omega (arith, z.within); is = z.is; at_two = z.at_two }

found : (n : ℕ) (ys : List (Option ℕ)) (j : ℕ) → j < length ys → get_or ys j None ≡ Some n → among (Some n) ys ≡ true
unfolding among
found n [] j h e = absurd (omega arith)
found n (y ∷ ys) zero h e = or_left _ _ (ap (one_valve (Some n)) e ∙ one_of n)
found n (y ∷ ys) (suc j) h e = or_right (one_valve (Some n) y) (among (Some n) ys) (found n ys j (omega arith) e)

repeats_twice : (xs : List (Option ℕ)) → repeats xs ≡ true → Twice xs
unfolding repeats
repeats_twice [] e = contra false e refl
repeats_twice (x ∷ xs) e = go (among x xs) refl e (repeats_twice xs)
  where
    go : (b : Bool) → among x xs ≡ b → (b || repeats xs) ≡ true → (repeats xs ≡ true → Twice xs) → Twice (x ∷ xs)
    go true q f ih =
        let z = later x xs q in
        record { one = 0; two = suc z.two; valve = z.valve; before = omega arith; within = omega (arith, z.within); at_one = z.is; at_two = z.at_two }
    go false q f ih =
        let z = ih f in
        record { one = suc z.one; two = suc z.two; valve = z.valve; before = omega (arith, z.before); within = omega (arith, z.within); at_one = z.at_one; at_two = z.at_two }

twice_repeats : (n : ℕ) (xs : List (Option ℕ)) (i j : ℕ) → (i ≡ j → ⊥) → i < length xs → j < length xs → get_or xs i None ≡ Some n → get_or xs j None ≡ Some n → repeats xs ≡ true
unfolding repeats
twice_repeats n [] i j d h k e f = absurd (omega arith)
twice_repeats n (x ∷ xs) zero zero d h k e f = absurd (d refl)
twice_repeats n (x ∷ xs) zero (suc j) d h k e f = or_left _ _ (ap (λ y. among y xs) e ∙ found n xs j (omega arith) f)
twice_repeats n (x ∷ xs) (suc i) zero d h k e f = or_left _ _ (ap (λ y. among y xs) f ∙ found n xs i (omega arith) e)
twice_repeats n (x ∷ xs) (suc i) (suc j) d h k e f = or_right (among x xs) (repeats xs) (twice_repeats n xs i j (λ q. d (ap suc q)) (omega arith) (omega arith) e f)

-- ---- a row

row_at : (t : Table) (v w : ℕ) → w < wheels → get_or (row_of t v) w None ≡ valve_at t v w
unfolding row_of
row_at t v zero h = refl
row_at t v (suc zero) h = refl
row_at t v (suc (suc zero)) h = refl
row_at t v (suc (suc (suc zero))) h = refl
row_at t v (suc (suc (suc (suc w)))) h = absurd (omega arith)

row_long : (t : Table) (v : ℕ) → length (row_of t v) ≡ wheels
unfolding row_of
row_long t v = refl

pub pair_repeats : {t : Table} {v : ℕ} → TwoWheels t v → repeats (row_of t v) ≡ true
pair_repeats {t} {v} p =
    twice_repeats p.valve (row_of t v) p.one p.two p.different (omega (arith, row_long t v, p.one_wheel)) (omega (arith, row_long t v, p.two_wheel))
    (row_at t v p.one p.one_wheel ∙ p.at_one) (row_at t v p.two p.two_wheel ∙ p.at_two)

pub repeats_pair : (t : Table) (v : ℕ) → repeats (row_of t v) ≡ true → TwoWheels t v
repeats_pair t v e =
    let z = repeats_twice (row_of t v) e in
    let h : z.two < wheels = omega (arith, z.within, row_long t v) in
    let g : z.one < wheels = omega (arith, z.before) in
    record {
      one = z.one;
      two = z.two;
      valve = z.valve;
      one_wheel = g;
      two_wheel = h;
      different = λ q. omega (arith, z.before);
      at_one = sym (row_at t v z.one g) ∙ z.at_one;
      at_two = sym (row_at t v z.two h) ∙ z.at_two;
    }

-- ---- the first of the variants

-- of n variants from v on
data First (t : Table) (v n : ℕ) : ℕ → Type 0 where
  none : ((u : ℕ) → v ≤ u → u < v + n → TwoWheels t u → ⊥) → First t v n 0
  at : {u : ℕ} → v ≤ u → u < v + n → TwoWheels t u → ((x : ℕ) → v ≤ x → x < u → TwoWheels t x → ⊥) → First t v n u

-- v has none, so one that has a pair lies behind it
behind : (t : Table) (v : ℕ) → repeats (row_of t v) ≡ false → (u : ℕ) → v ≤ u → TwoWheels t u → (suc v ≤ u → ⊥) → ⊥
behind t v e u h p f = go (eqb v u) refl
  where
    go : (b : Bool) → eqb v u ≡ b → ⊥
    go true q = contra _ (rw (eqb-true v u q) (pair_repeats p)) e
    go false q = f (omega (arith, eqb-false v u q))

more : {t : Table} {v n r : ℕ} → repeats (row_of t v) ≡ false → First t (suc v) n r → First t v (suc n) r
more {t} {v} e (First.none f) = First.none (λ u h k p. behind t v e u h p (λ l. f u l (omega arith) p))
more {t} {v} {n} {r} e (First.at h k p f) = First.at {u = r} (omega arith) (omega arith) p (λ x i j q. behind t v e x i q (λ l. f x l j q))

first : (t : Table) (v n : ℕ) → First t v n (pair_from t v n)
unfolding pair_from
first t v zero = First.none (λ u h k p. omega arith)
first t v (suc n) = go (repeats (row_of t v)) refl (first t (suc v) n)
  where
    go : (b : Bool) → repeats (row_of t v) ≡ b → First t (suc v) n (pair_from t (suc v) n) → First t v (suc n) (cond b v (pair_from t (suc v) n))
    go true q ih = First.at {u = v} (omega arith) (omega arith) (repeats_pair t v q) (λ x i j p. omega arith)
    go false q ih = more q ih

-- ---- "exactly when such a pair exists in the final table"

pub first_is : (t : Table) → FirstIs t (first_pair t)
unfolding first_pair
first_is t = go (first t 1 variant_count)
  where
    go : {r : ℕ} → First t 1 variant_count r → FirstIs t r
    go (First.none f) = FirstIs.none (λ v h k p. f v h (omega arith) p)
    go (First.at h k p f) = FirstIs.at h (omega arith) p f

pub first_only : {t : Table} {r : ℕ} → FirstIs t r → r ≡ first_pair t
first_only {t} a = go a (first_is t)
  where
    lower : (x y : ℕ) → (x < y → ⊥) → (y < x → ⊥) → x ≡ y
    lower x y f g = same (ltb x y) refl (ltb y x) refl
      where
        same : (a : Bool) → ltb x y ≡ a → (b : Bool) → ltb y x ≡ b → x ≡ y
        same true p b q = absurd (f (ltb-true x y p))
        same false p true q = absurd (g (ltb-true y x q))
        same false p false q = omega (arith, ltb-false x y p, ltb-false y x q)

    go : {r q : ℕ} → FirstIs t r → FirstIs t q → r ≡ q
    go (FirstIs.none f) (FirstIs.none g) = refl
    go (FirstIs.none f) (FirstIs.at h k p g) = absurd (f _ h k p)
    go (FirstIs.at h k p g) (FirstIs.none f) = absurd (f _ h k p)
    go {r} {q} (FirstIs.at h k p f) (FirstIs.at i j y g) = lower r q (λ l. g _ h l p) (λ l. f _ i l y)

-- the answer isn't 0 exactly when there is a variant with a pair
pub pair_found : {t : Table} {v : ℕ} → 1 ≤ v → v ≤ variant_count → TwoWheels t v → first_pair t ≡ 0 → ⊥
pair_found {t} {v} h k p e = go (first_pair t) e (first_is t)
  where
    go : (r : ℕ) → r ≡ 0 → FirstIs t r → ⊥
    go r e (FirstIs.none f) = f v h k p
    go r e (FirstIs.at i j q g) = omega arith

pub found_pair : {t : Table} → (first_pair t ≡ 0 → ⊥) → (v : ℕ) × ((1 ≤ v) × ((v ≤ variant_count) × TwoWheels t v))
found_pair {t} n = go (first_pair t) n (first_is t)
  where
    go : (r : ℕ) → (r ≡ 0 → ⊥) → FirstIs t r → (v : ℕ) × ((1 ≤ v) × ((v ≤ variant_count) × TwoWheels t v))
    go r n (FirstIs.none f) = absurd (n refl)
    go r n (FirstIs.at i j q g) = (r, (i, (j, q)))

-- ======== the theorems

pub first_found : FirstFound
first_found t r = (λ e. rw e (first_is t), first_only)

pub pair_found_exactly : PairFoundExactly
pair_found_exactly t = (λ p. pair_found p.1.0 p.1.1.0 p.1.1.1, found_pair)
